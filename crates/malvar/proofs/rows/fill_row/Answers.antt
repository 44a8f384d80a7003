use Rattle.std.proofs.Common.{◌≡◌, ◌+◌, ◌∙◌, ap, arith}
use Rattle.plane_view.specs.Lent.{sample_at}
use Rattle.malvar.specs.inner.Around.{even_site, odd_site}
use Rattle.malvar.specs.Demosaic.{demosaiced_at, table_of, reach_of}
use Rattle.malvar.specs.Mosaics.{colours_of}
use Rattle.malvar.specs.inner.AroundLaws.{reaches}
use Rattle.malvar.specs.inner.Rows.{Spans}
use Rattle.plane_view.specs.declared.Rect.{Rect}
use Rattle.plane_view.specs.Rectangles.{grown, whole_rect}
use Rattle.malvar.proofs.RowSamples.{row_sample_is}
use Rattle.malvar.proofs.rows.fill_row.Goals as goal

pub returns : goal.returns
returns c =
    let kind = c.args.kind in
    let whole = c.args.whole in
    let L = c.args.input.now in
    let r = c.args.r in
    let cfa = colours_of c.args.pattern in
    let w = c.of_part-window.result in
    let sites = c.sites.result in
    let cols = c.of_part-window.ensures.cols in
    let is_part : c.grow-part.result ≡ grown c.args.rect (reach_of kind) (whole_rect whole.rows whole.cols) =
    c.grow-part.ensures.edges ∙ (λ i. grown c.args.rect (c.reach.ensures i) (c.rect.ensures i)) in
    let left = ap (λ (x : Rect). x.left) is_part in
    let right = ap (λ (x : Rect). x.right) is_part in
    let reach = reaches kind in
    record {
      samples = λ k p pixel colour.
          let spans : Spans (reach_of kind) w k (k + 1) = record {
            low = omega arith;
            order = omega arith;
            within = omega arith;
            high = omega arith;
          } in
          c.fill.ensures k p pixel.left pixel.right colour
          ∙ row_sample_is kind (even_site sites) (odd_site sites) w cfa L whole.rows r k p (omega arith)
          c.of_part-window.ensures.rows c.requires.planes spans c.sites.ensures.even c.sites.ensures.even_next
          c.sites.ensures.odd c.sites.ensures.odd_next
          ∙ ap (λ n. demosaiced_at (table_of kind) cfa whole.rows n (sample_at L) r k p) cols;
    }
