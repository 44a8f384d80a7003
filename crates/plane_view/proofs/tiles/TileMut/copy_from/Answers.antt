use Rattle.std.proofs.Common.{◌≡◌, ℕ, ◌+◌, ◌-◌, ◌*◌, ◌<◌, ◌≤◌, ⊎_elim, get_or, refl, sym, ◌∙◌, ap, subst, arith}
use Rattle.std.proofs.lemmas.Bool.{cases_lt}
use Rattle.plane_view.specs.declared.Rect.{Rect}
use Rattle.plane_view.specs.Rectangles.{HasPixel, width}
use Rattle.plane_view.specs.Lent.{Lent, sample_at}
use Rattle.plane_view.specs.Tiles.{loan}
use Rattle.plane_view.proofs.Writes.{pixel_in}
use Rattle.plane_view.proofs.Loans.{same_loan, then_loan}
use Rattle.plane_view.proofs.tiles.TileMut.copy_from.Goals as goal

pub loop-r-init : goal.loop-r-init
loop-r-init c =
    record {
      same = same_loan c.args.self.now;
      copied = λ r c' p mine theirs below plane.
          let both : HasPixel c.in-Some.both r c' =
          (c.in-Some.ensures.pixels r c').1 (
            mine,
            subst (λ (x : Rect). HasPixel x r c') (sym c.rect.ensures)
                theirs,
          ) in
          absurd (omega arith);
      others = λ r c' p inside out plane. refl;
    }

pub copy_row_part-requires-clause-long : goal.copy_row_part-requires-clause-long
copy_row_part-requires-clause-long c =
    let planes : c.args.from.now.planes ≡ c.loop-r.self.planes = c.requires ∙ sym c.loop-r.invariant.same.planes in
    c.row_part.ensures.long ∙ ap (λ n. width c.in-Some.both * n) planes

pub loop-r-preserved : goal.loop-r-preserved
loop-r-preserved c =
    let V : Lent = c.args.from.now in
    let both : Rect = c.in-Some.both in
    let planes : c.args.from.now.planes ≡ c.loop-r.self.planes = c.requires ∙ sym c.loop-r.invariant.same.planes in
    let now_home : (r c' : ℕ) → HasPixel c.args.self.now.home r c' → HasPixel c.loop-r.self.home r c' =
    λ r c' inside. subst (λ (x : Rect). HasPixel x r c') (sym c.loop-r.invariant.same.home) inside in
    let now_plane : (p : ℕ) → p < c.args.self.now.planes → p < c.loop-r.self.planes =
    λ p plane. subst (λ (n : ℕ). p < n) (sym c.loop-r.invariant.same.planes) plane in
    record {
      same = then_loan c.args.self.now c.loop-r.self c.copy_row_part.new.self c.loop-r.invariant.same
          c.copy_row_part.ensures.loan;
      copied = λ r c' p mine theirs below plane.
          let shared : HasPixel both r c' =
          (c.in-Some.ensures.pixels r c').1 (
            mine,
            subst (λ (x : Rect). HasPixel x r c') (sym c.rect.ensures)
                theirs,
          ) in
          ⊎_elim
          (λ (earlier : r < c.loop-r.r).
          c.copy_row_part.ensures.puts.others r c' p
          (now_home r c' (pixel_in c.args.self.now.home c.args.self.now.rect r c' c.args.self.now.inside mine))
          (now_plane p plane) (λ same from to. omega arith)
          ∙ c.loop-r.invariant.copied r c' p mine theirs earlier plane)
          (λ (last : c.loop-r.r ≤ r).
          let is : r ≡ c.loop-r.r = omega arith in
          let in_view : p < V.planes = subst (λ (n : ℕ). p < n) (sym c.requires) plane in
          ap (λ i. sample_at (loan c.copy_row_part.new.self) i c' p) is
          ∙ c.copy_row_part.ensures.puts.written c' p shared.left shared.right (now_plane p plane)
          ∙ ap (λ n. get_or c.row_part.result.now ((c' - both.left) * n + p) 0) (sym planes)
          ∙ c.row_part.ensures.samples c' p shared.left shared.right in_view
          ∙ ap (λ i. sample_at V i c' p) (sym is))
          (cases_lt r c.loop-r.r);
      others = λ r c' p inside out plane.
          c.copy_row_part.ensures.puts.others r c' p (now_home r c' inside) (now_plane p plane)
          (λ same from to.
          let shared : HasPixel both r c' = record { top = omega arith; bottom = omega arith; left = from; right = to }
          in
          let found = (c.in-Some.ensures.pixels r c').0 shared in
          out found.0 (subst (λ (x : Rect). HasPixel x r c') c.rect.ensures found.1) (omega arith))
          ∙ c.loop-r.invariant.others r c' p inside (λ mine theirs below. out mine theirs (omega arith)) plane;
    }

pub returns-clause-copies : goal.returns-clause-copies
returns-clause-copies c =
    record {
      copied = λ r c' p mine theirs plane.
          let shared : HasPixel c.in-Some.both r c' =
          (c.in-Some.ensures.pixels r c').1 (
            mine,
            subst (λ (x : Rect). HasPixel x r c') (sym c.rect.ensures)
                theirs,
          ) in
          c.loop-r.invariant.copied r c' p mine theirs (omega arith) plane;
      others = λ r c' p inside out plane. c.loop-r.invariant.others r c' p inside (λ mine theirs below. out mine theirs)
          plane;
    }
