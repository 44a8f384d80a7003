use Rattle.std.proofs.Common.{◌≡◌, ℕ, ◌+◌, ◌-◌, ◌*◌, take, drop, ap, sym, subst, arith, rules, refl}
use Rattle.plane_view.specs.declared.Rect.{Rect}
use Rattle.plane_view.specs.Lent.{Lent, HasRowPart, IsRowPart}
use Rattle.plane_view.proofs.Parts.{row_part_of_lender, row_part_bound}
use Rattle.plane_view.proofs.views.View.row_part.Goals as goal

pub overflow_add-result : goal.overflow_add-result
overflow_add-result c =
    let v = c.self.inside in
    let lender : Lent = record { rect = v.home; planes = v.planes; samples = v.samples.now } in
    let row_part : HasRowPart v.rect c.args.r c.args.left c.args.right =
    subst (λ (x : Rect). HasRowPart x c.args.r c.args.left c.args.right)
    (sym (ap (λ (V : Lent). V.rect) c.self.view_is)) c.requires in
    let inside = row_part_bound lender v.rect c.args.r c.args.left c.args.right c.self.invariant.1 c.self.invariant.0
    row_part in
    record { fits = omega (arith, c.self.told) }

pub slice_bounds-result-end : goal.slice_bounds-result-end
slice_bounds-result-end c =
    let v = c.self.inside in
    let lender : Lent = record { rect = v.home; planes = v.planes; samples = v.samples.now } in
    let row_part : HasRowPart v.rect c.args.r c.args.left c.args.right =
    subst (λ (x : Rect). HasRowPart x c.args.r c.args.left c.args.right)
    (sym (ap (λ (V : Lent). V.rect) c.self.view_is)) c.requires in
    let inside = row_part_bound lender v.rect c.args.r c.args.left c.args.right c.self.invariant.1 c.self.invariant.0
    row_part in
    search (rules, inside)

pub returns : goal.returns
returns c =
    let v = c.self.inside in
    let lender : Lent = record { rect = v.home; planes = v.planes; samples = v.samples.now } in
    let start : ℕ = ((c.args.r - v.home.top) * (v.home.right - v.home.left) + (c.args.left - v.home.left)) * v.planes in
    let len : ℕ = (c.args.right - c.args.left) * v.planes in
    let P : Lent → Type 0 = λ V. HasRowPart V.rect c.args.r c.args.left c.args.right
    → IsRowPart (take len (drop start v.samples.now)) V c.args.r c.args.left c.args.right in
    let now : IsRowPart (take len (drop start v.samples.now)) c.args.self.now c.args.r c.args.left c.args.right =
    subst P c.self.view_is (λ row_part. row_part_of_lender lender v.rect c.args.r c.args.left c.args.right start len
    (omega arith)
    refl c.self.invariant.1 c.self.invariant.0 row_part) c.requires in
    let long : start + len - start ≡ len = omega arith in
    rw long now
