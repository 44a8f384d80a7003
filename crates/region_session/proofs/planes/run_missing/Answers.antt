use Rattle.std.proofs.Common.{◌≡◌, ℕ, ◌*◌, ◌<◌, ◌^◌, ◌++◌, List, length, get_or, refl, sym, ◌∙◌, ap, subst, arith}
use Rattle.std.proofs.lemmas.List.{append-nil, take_all}
use Rattle.plane_view.specs.declared.Rect.{Rect}
use Rattle.plane_view.specs.declared.Shape.{Shape}
use Rattle.plane_view.specs.Plane.{Plane, crop}
use Rattle.plane_view.specs.Rectangles.{LiesIn, area_of}
use Rattle.plane_view.specs.Lent.{AgreesWith, Lent, part_of}
use Rattle.plane_view.proofs.Cuts.{parts_length}
use Rattle.stage_core.specs.Planes.{IsPart, IsPlane}
use Rattle.stage_deps.specs.Cells.{cell_at}
use Rattle.stage_deps.specs.Grids.{grid_cells}
use Rattle.stage_deps.proofs.GridCells.{grid_makes_up}
use Rattle.kept_cells.specs.Kept.{size_of}
use Rattle.kept_cells.proofs.Keeping.{absent_step, put_step}
use Rattle.kept_cells.proofs.Lower.{put_others, put_right}
use Rattle.region_session.specs.inner.Parts.{HasCells}
use Rattle.region_session.proofs.Copying.{cell_here, cell_told, cells_next, part_is}
use Rattle.region_session.proofs.Sizes.{small_part}
use Rattle.region_session.proofs.planes.run_missing.Goals as goal

pub rect-cell-requires : goal.rect-cell-requires
rect-cell-requires g c =
    omega (
      arith,
      c.requires.numbers c.loop-k.k-index 0 (omega arith),
      parts_length c.args.grid.now.shape c.args.grid.now.side c.args.grid.now.side,
    )

pub run-requires-clause-cell : goal.run-requires-clause-cell
run-requires-clause-cell g c =
    let grid = c.args.grid.now in
    let up = grid_makes_up grid.shape grid.side (omega (arith, grid.least)) in
    subst (λ (s : Shape). IsPart c.rect-cell.result s) c.requires.grid
    (up.part (get_or c.args.numbers.now c.loop-k.k-index 0) c.rect-cell.result c.rect-cell.ensures.cell)

pub run-requires-clause-inside : goal.run-requires-clause-inside
run-requires-clause-inside g c =
    let cells : List Rect = grid_cells c.args.grid.now.shape c.args.grid.now.side in
    let is = cell_here cells c.args.numbers.now c.loop-k.k-index c.rect-cell.result c.rect-cell.ensures.cell in
    subst (λ (x : Rect). LiesIn c.rect-cell.result x) (sym c.loop-k.invariant.rect)
    (cell_told (λ x. LiesIn x c.args.patch.now.rect) cells c.args.numbers.now c.loop-k.k-index c.rect-cell.result
    c.requires.inside (omega arith) is)

pub run-requires-clause-need : goal.run-requires-clause-need
run-requires-clause-need g c =
    let cells : List Rect = grid_cells c.args.grid.now.shape c.args.grid.now.side in
    let is = cell_here cells c.args.numbers.now c.loop-k.k-index c.rect-cell.result c.rect-cell.ensures.cell in
    cell_told (λ x. LiesIn (g.S.Stage.needed c.args.stage.now c.args.input x) c.args.lower.now.rect) cells
    c.args.numbers.now c.loop-k.k-index c.rect-cell.result c.requires.needs (omega arith) is

pub put-requires-clause-inside : goal.put-requires-clause-inside
put-requires-clause-inside g c =
    let cells : List Rect = grid_cells c.args.grid.now.shape c.args.grid.now.side in
    let is = cell_here cells c.args.numbers.now c.loop-k.k-index c.rect-cell.result c.rect-cell.ensures.cell in
    let rect : c.view.result.rect ≡ c.args.patch.now.rect = ap (λ (L : Lent). L.rect) c.view.ensures
    ∙ c.run.ensures.rect ∙ c.loop-k.invariant.rect in
    subst (λ (x : Rect). LiesIn c.rect-cell.result x) (sym rect)
    (cell_told (λ x. LiesIn x c.args.patch.now.rect) cells c.args.numbers.now c.loop-k.k-index c.rect-cell.result
    c.requires.inside (omega arith) is)

pub put-requires-clause-small : goal.put-requires-clause-small
put-requires-clause-small g c =
    let grid = c.args.grid.now in
    let up = grid_makes_up grid.shape grid.side (omega (arith, grid.least)) in
    let part : IsPart c.rect-cell.result grid.shape = up.part (get_or c.args.numbers.now c.loop-k.k-index 0)
    c.rect-cell.result c.rect-cell.ensures.cell in
    let planes : c.view.result.planes ≡ grid.shape.planes = ap (λ (L : Lent). L.planes) c.view.ensures
    ∙ c.run.ensures.planes ∙ c.loop-k.invariant.planes ∙ c.requires.planes in
    subst (λ (n : ℕ). area_of c.rect-cell.result * n < 2 ^ 32) (sym planes)
    (small_part c.rect-cell.result grid.shape grid.limits part.inside)

pub returns-in_err-put-clause-right : goal.returns-in_err-put-clause-right
returns-in_err-put-clause-right g c = λ P is_P agrees right.
    let stage = c.args.stage.now in
    let input : Shape = c.args.input in
    let grid = c.args.grid.now in
    let cells : List Rect = grid_cells grid.shape grid.side in
    let numbers = c.args.numbers.now in
    let i : ℕ = c.loop-k.k-index in
    let cell : Rect = c.rect-cell.result in
    let within : i < length numbers = omega arith in
    let is = cell_here cells numbers i cell c.rect-cell.ensures.cell in
    let Q : Plane = g.S.Stage.apply stage P in
    let is_Q : IsPlane Q (g.S.Stage.shaped stage input) = g.met.S.Stage.makes_planes stage input P c.requires.shape
    c.requires.takes is_P in
    let of : Q.planes ≡ c.loop-k.patch.planes = is_Q.shape.planes ∙ ap (λ (s : Shape). s.planes) (sym c.requires.grid)
    ∙ sym (c.loop-k.invariant.planes ∙ c.requires.planes) in
    let inside : LiesIn cell c.loop-k.patch.rect = subst (λ (x : Rect). LiesIn cell x) (sym c.loop-k.invariant.rect)
    (cell_told (λ x. LiesIn x c.args.patch.now.rect) cells numbers i cell c.requires.inside within is) in
    let copies = c.run.ensures.made P is_P
    (cell_told (λ x. AgreesWith P c.args.lower.now (g.S.Stage.needed stage input x)) cells numbers i cell agrees
    within is) in
    let xs : (part_of c.view.result cell).samples ≡ (crop Q (cell_at cells (get_or numbers i 0))).samples =
    ap (λ (L : Lent). (part_of L cell).samples) c.view.ensures
    ∙ part_is Q c.loop-k.patch c.run.new.self cell copies inside of c.run.ensures.planes
    ∙ ap (λ (x : Rect). (crop Q x).samples) is in
    put_right _ _ c.args.plane (get_or numbers i 0) _ Q cells c.put.ensures.takes xs
    (c.loop-k.invariant.right P is_P agrees right)

pub loop-k-init : goal.loop-k-init
loop-k-init g c =
    record {
      rect = refl;
      planes = refl;
      marks = refl;
      copied = λ P wanted done is_P agrees had. subst (λ (xs : List ℕ). HasCells (g.S.Stage.apply c.args.stage.now P)
          c.args.patch.now wanted (grid_cells c.args.grid.now.shape c.args.grid.now.side) xs) (sym (append-nil done))
          had;
      right = λ P is_P agrees right. right;
      others = record { others = λ p k other now. (now, refl) };
      kept = refl;
      absent = λ j past within. c.requires.absent j 0 within;
      work = omega arith;
    }

pub loop-k-preserved : goal.loop-k-preserved
loop-k-preserved g c =
    let was = c.loop-k.invariant in
    let stage = c.args.stage.now in
    let input : Shape = c.args.input in
    let grid = c.args.grid.now in
    let cells : List Rect = grid_cells grid.shape grid.side in
    let numbers = c.args.numbers.now in
    let i : ℕ = c.loop-k.k-index in
    let n : ℕ = get_or numbers i 0 in
    let cell : Rect = c.rect-cell.result in
    let within : i < length numbers = omega arith in
    let is : cell ≡ cell_at cells n = cell_here cells numbers i cell c.rect-cell.ensures.cell in
    let inside : LiesIn cell c.loop-k.patch.rect = subst (λ (x : Rect). LiesIn cell x) (sym was.rect)
    (cell_told (λ x. LiesIn x c.args.patch.now.rect) cells numbers i cell c.requires.inside within is) in
    let planes : c.view.result.planes ≡ grid.shape.planes = ap (λ (L : Lent). L.planes) c.view.ensures
    ∙ c.run.ensures.planes ∙ was.planes ∙ c.requires.planes in
    record {
      rect = c.run.ensures.rect ∙ was.rect;
      planes = c.run.ensures.planes ∙ was.planes;
      marks = c.put.ensures.marks ∙ was.marks;
      copied = λ P wanted done is_P agrees had.
          let copies = c.run.ensures.made P is_P
          (cell_told (λ x. AgreesWith P c.args.lower.now (g.S.Stage.needed stage input x)) cells numbers i cell
          agrees within is) in
          cells_next (g.S.Stage.apply stage P) c.loop-k.patch c.run.new.self wanted cells done numbers i cell within is
          (was.copied P wanted done is_P agrees had) copies c.run.ensures.rect c.run.ensures.planes;
      right = λ P is_P agrees right.
          let Q : Plane = g.S.Stage.apply stage P in
          let is_Q : IsPlane Q (g.S.Stage.shaped stage input) =
          g.met.S.Stage.makes_planes stage input P c.requires.shape c.requires.takes is_P in
          let of : Q.planes ≡ c.loop-k.patch.planes = is_Q.shape.planes
          ∙ ap (λ (s : Shape). s.planes) (sym c.requires.grid) ∙ sym (was.planes ∙ c.requires.planes) in
          let copies = c.run.ensures.made P is_P
          (cell_told (λ x. AgreesWith P c.args.lower.now (g.S.Stage.needed stage input x)) cells numbers i cell
          agrees within is) in
          let xs : (part_of c.view.result cell).samples ≡ (crop Q (cell_at cells n)).samples =
          ap (λ (L : Lent). (part_of L cell).samples) c.view.ensures
          ∙ part_is Q c.loop-k.patch c.run.new.self cell copies inside of c.run.ensures.planes
          ∙ ap (λ (x : Rect). (crop Q x).samples) is in
          put_right _ _ c.args.plane n _ Q cells c.put.ensures.takes xs (was.right P is_P agrees right);
      others = put_others _ _ _ c.args.plane n _ was.others c.put.ensures.takes;
      kept =
          put_step _ _ _ c.args.plane (size_of cells grid.shape.planes) numbers i _ within was.kept
          c.in_ok-put.ensures.kept
          (ap (λ (x : Rect). area_of x * c.view.result.planes) is
          ∙ ap (λ (m : ℕ). area_of (cell_at cells n) * m) planes);
      absent = absent_step _ _ c.args.plane _ numbers i c.requires.rising c.put.ensures.takes was.absent;
      work = omega (arith, c.run.ensures.work, was.work);
    }

pub returns-clause-copied : goal.returns-clause-copied
returns-clause-copied g c = λ P wanted done is_P agrees had.
    subst (λ (xs : List ℕ). HasCells (g.S.Stage.apply c.args.stage.now P) c.loop-k.patch wanted
    (grid_cells c.args.grid.now.shape c.args.grid.now.side) (done ++ xs))
    (take_all c.loop-k.k-index c.args.numbers.now (omega arith))
    (c.loop-k.invariant.copied P wanted done is_P agrees had)
