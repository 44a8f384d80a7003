use Rattle.std.proofs.Common.{rules, ◌≡◌, ℕ, ◌+◌, ◌-◌, ◌*◌, List, take, drop, ◌∙◌, ap, arith}
use Rattle.plane_view.specs.Plane.{Plane}
use Rattle.stage_chain.proofs.Bounds.{run_within}
use Rattle.stage_chain.proofs.whole_plane.WholePlane.row.Goals as goal

pub slice_bounds-result-end : goal.slice_bounds-result-end
slice_bounds-result-end c =
    let s = c.self.inside in
    let rows = ap (λ (P : Plane). P.rows) c.self.view_is in
    let cols = ap (λ (P : Plane). P.cols) c.self.view_is in
    let within = run_within s.shape.rows s.shape.cols s.shape.planes c.args.row c.args.left c.args.right
    (omega (arith, rows, c.requires.row)) c.requires.left (omega (arith, cols, c.requires.right)) in
    search (rules, within)

pub returns-clause-samples : goal.returns-clause-samples
returns-clause-samples c =
    let s = c.self.inside in
    let start : ℕ = (c.args.row * s.shape.cols + c.args.left) * s.shape.planes in
    let count : ℕ = (c.args.right - c.args.left) * s.shape.planes in
    let long : start + count - start ≡ count = omega arith in
    ap (λ (n : ℕ). take n (drop start c.deref.result.now)) long
    ∙ (ap (λ (xs : List ℕ). take count (drop start xs)) c.deref.ensures.value
    ∙ ap (λ (P : Plane). take ((c.args.right - c.args.left) * P.planes)
    (drop ((c.args.row * P.cols + c.args.left) * P.planes) P.samples)) c.self.view_is)
