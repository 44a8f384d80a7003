use Rattle.std.proofs.Common.{◌≡◌, ◌∙◌, ◌-◌, ◌*◌, ◌≤◌, ℕ, List, ◌++◌, length, sym, ap, arith}
use Rattle.plane_view.specs.Rectangles.{height, width}
use Rattle.plane_view.proofs.Samples.{length-samples_of}
use Rattle.kept_cells.proofs.Cut.{no_samples, rows_more, rows_of}
use Rattle.kept_cells.proofs.parts.samples_of.Goals as goal

pub returns-then-rect-clause-samples : goal.returns-then-rect-clause-samples
returns-then-rect-clause-samples c =
    let rect = c.args.rect in
    let narrow : rect.right - rect.left ≡ 0 = omega (arith, c.if-rect.true) in
    let none : height rect * width rect * c.args.part.now.planes ≡ 0 = rw narrow (omega arith) in
    c.in_ok-samples.ensures.items ∙ sym (no_samples (height rect) (width rect) c.args.part.now.planes _ none)

pub loop-row-init : goal.loop-row-init
loop-row-init c =
    let rect = c.args.rect in
    let begin : rect.top - rect.top ≡ 0 = omega arith in
    let none : (rect.top - rect.top) * width rect * c.args.part.now.planes ≡ 0 = rw begin (omega arith) in
    record {
      rows = c.in_ok-samples.ensures.items
          ∙ sym (no_samples (rect.top - rect.top) (width rect) c.args.part.now.planes _ none);
      within = omega arith;
    }

pub loop-row-preserved : goal.loop-row-preserved
loop-row-preserved c =
    let rect = c.args.rect in
    let row : ℕ = c.loop-row.row in
    let order : rect.left ≤ rect.right = omega (arith, c.if-rect.false) in
    let below : rect.top ≤ row = omega (arith, c.loop-row.auto.row) in
    record {
      rows = c.in_ok-extend_from_slice.ensures.items
          ∙ ap (λ (xs : List ℕ). xs ++ c.row_part.result.now) c.loop-row.invariant.rows
          ∙ sym (rows_more c.args.part.now rect row c.row_part.result.now below order c.row_part.ensures);
      within = omega (arith, c.loop-row-test.true, below);
    }

pub returns-clause-samples : goal.returns-clause-samples
returns-clause-samples c =
    let rect = c.args.rect in
    let row : ℕ = c.loop-row.row in
    let all : row - rect.top ≡ height rect =
    omega (arith, c.loop-row.auto.row, c.loop-row.invariant.within, c.loop-row-test.false) in
    c.loop-row.invariant.rows ∙ ap (rows_of c.args.part.now rect) all

pub returns-clause-long : goal.returns-clause-long
returns-clause-long c =
    let rect = c.args.rect in
    ap length (returns-clause-samples c) ∙ length-samples_of (height rect) (width rect) c.args.part.now.planes _
