use Rattle.std.proofs.Common.{◌≡◌, ◌+◌, ◌-◌, ◌*◌, List, ℕ, refl, subst, arith}
use borrow.Rule.Slice.PartMut.{put_mid}
use Rattle.plane_view.specs.Lent.{place_in}
use Rattle.plane_view.specs.Tiles.{loan}
use Rattle.plane_view.specs.inner.RowParts.{PutsRowPart}
use Rattle.plane_view.proofs.Writes.{row_part_outside, row_part_put, with_samples}
use Rattle.plane_view.proofs.tiles.TileMut.copy_row_part.Goals as goal

pub returns-clause-loan : goal.returns-clause-loan
returns-clause-loan c =
    let t = c.args.self.now in
    let n : ℕ = c.args.right - c.args.left in
    let len : c.row_part_at-start.result.0 + c.row_part_at-start.result.1 - c.row_part_at-start.result.0
    ≡ n * t.planes =
    omega arith in
    record {
      slice = refl;
      home = refl;
      planes = refl;
      rect = refl;
      outside = λ r' c' p pixel out plane.
          rw (c.copy_from_slice.ensures.after, len, c.row_part_at-start.ensures.start)
          (row_part_outside (loan t) t.rect c.args.r c.args.left c.args.right c.args.samples.now t.long t.inside
          c.requires.pixels c.requires.long r' c' p pixel out plane);
    }

pub returns-clause-puts : goal.returns-clause-puts
returns-clause-puts c =
    let t = c.args.self.now in
    let n : ℕ = c.args.right - c.args.left in
    let len : c.row_part_at-start.result.0 + c.row_part_at-start.result.1 - c.row_part_at-start.result.0
    ≡ n * t.planes =
    omega arith in
    let same : put_mid (place_in t.home t.planes c.args.r c.args.left 0) (n * t.planes) t.samples.now c.args.samples.now
    ≡ put_mid c.row_part_at-start.result.0
    (c.row_part_at-start.result.0 + c.row_part_at-start.result.1 - c.row_part_at-start.result.0)
    t.samples.now c.copy_from_slice.new.self =
    rw (len, c.row_part_at-start.ensures.start, c.copy_from_slice.ensures.after) refl in
    subst (λ (xs : List ℕ). PutsRowPart (loan t) (with_samples (loan t) xs) c.args.r c.args.left c.args.right
    c.args.samples.now) same
    (row_part_put (loan t) t.rect c.args.r c.args.left c.args.right c.args.samples.now t.long t.inside c.requires.pixels
    c.requires.long)
