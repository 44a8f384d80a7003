use Rattle.std.proofs.Common.{◌≡◌, ℕ, ◌*◌, ◌<◌, ◌^◌, ◌++◌, List, length, get_or, refl, sym, ◌∙◌, ap, subst, arith}
use Rattle.std.proofs.lemmas.List.{append-nil, take_all}
use Rattle.std.proofs.lemmas.Option.{slice_get-get_or}
use Rattle.plane_view.specs.declared.Rect.{Rect}
use Rattle.plane_view.specs.Plane.{Plane, crop}
use Rattle.plane_view.specs.Rectangles.{LiesIn, area_of}
use Rattle.plane_view.specs.Lent.{Lent, lent_crop, part_of}
use Rattle.plane_view.specs.Tiles.{CopiesFrom}
use Rattle.stage_core.specs.Bases.{raised}
use Rattle.stage_core.specs.Planes.{IsPart}
use Rattle.stage_core.specs.Stages.{shape_of}
use Rattle.stage_deps.specs.Cells.{cell_at, no_rect}
use Rattle.kept_cells.specs.Kept.{size_of}
use Rattle.kept_cells.proofs.Keeping.{absent_step, put_step}
use Rattle.kept_cells.proofs.Lower.{put_others, put_right}
use Rattle.region_session.specs.inner.Parts.{HasCells}
use Rattle.stage_core.proofs.Counting.{raised_more, raised_none}
use Rattle.region_session.proofs.Copying.{cells_next, part_is}
use Rattle.region_session.proofs.Sizes.{small_part}
use Rattle.region_session.proofs.planes.fetch_missing.Goals as goal

pub loop-k-init : goal.loop-k-init
loop-k-init g c =
    record {
      rect = refl;
      planes = refl;
      marks = refl;
      copied = λ wanted done had. subst (λ (xs : List ℕ). HasCells (g.B.Base.plane c.args.base.now) c.args.patch.now
          wanted (g.B.Base.cells_of c.args.base.now) xs) (sym (append-nil done)) had;
      right = λ right. right;
      others = record { others = λ p k other now. (now, refl) };
      kept = refl;
      absent = λ j past within. c.requires.absent j 0 within;
      work = omega arith;
      count = sym (raised_none _ (g.met.B.Base.held c.args.base.now));
      plane = refl;
      base_cells = refl;
    }

pub returns-clause-copied : goal.returns-clause-copied
returns-clause-copied g c = λ wanted done had.
    subst (λ (xs : List ℕ). HasCells (g.B.Base.plane c.args.base.now) c.loop-k.patch wanted
    (g.B.Base.cells_of c.args.base.now) (done ++ xs)) (take_all c.loop-k.k-index c.args.numbers.now (omega arith))
    (c.loop-k.invariant.copied wanted done had)

pub put-requires-clause-small : goal.put-requires-clause-small
put-requires-clause-small g c =
    let P : Plane = g.B.Base.plane c.args.base.now in
    let numbers = c.args.numbers.now in
    let i : ℕ = c.loop-k.k-index in
    let n : ℕ = get_or numbers i 0 in
    let cells : List Rect = g.B.Base.cells_of c.args.base.now in
    let within : i < length numbers = omega arith in
    let part : IsPart (cell_at cells n) (shape_of P) =
    c.requires.own.plane.part n (cell_at cells n) (slice_get-get_or cells n no_rect (c.requires.numbers i 0 within)) in
    let planes : P.planes ≡ c.view.result.planes = sym (ap (λ (L : Lent). L.planes) c.view.ensures
    ∙ c.fetch.ensures.planes ∙ c.loop-k.invariant.planes ∙ c.requires.planes) in
    subst (λ (m : ℕ). area_of (cell_at c.args.cells.now n) * m < 2 ^ 32) planes
    (subst (λ (xs : List Rect). area_of (cell_at xs n) * P.planes < 2 ^ 32) (sym c.requires.cells)
    (small_part (cell_at cells n) (shape_of P) c.requires.shape part.inside))

pub returns-in_err-put-clause-right : goal.returns-in_err-put-clause-right
returns-in_err-put-clause-right g c = λ right.
    let was = c.loop-k.invariant in
    let P : Plane = g.B.Base.plane c.args.base.now in
    let cells : List Rect = g.B.Base.cells_of c.args.base.now in
    let numbers = c.args.numbers.now in
    let i : ℕ = c.loop-k.k-index in
    let n : ℕ = get_or numbers i 0 in
    let cell : Rect = cell_at c.args.cells.now n in
    let within : i < length numbers = omega arith in
    let is : cell ≡ cell_at cells n = ap (λ (xs : List Rect). cell_at xs n) c.requires.cells in
    let inside : LiesIn cell c.loop-k.patch.rect = subst (λ (x : Rect). LiesIn cell x) (sym was.rect)
    (subst (λ (x : Rect). LiesIn x c.args.patch.now.rect) (sym is) (c.requires.inside i 0 within)) in
    let of : P.planes ≡ c.loop-k.patch.planes = sym (was.planes ∙ c.requires.planes) in
    let copies = subst (λ (Q : Plane). CopiesFrom c.loop-k.patch c.fetch.new.self (lent_crop Q cell)
    c.loop-k.patch.rect) was.plane c.fetch.ensures.fetched in
    let xs : (part_of c.view.result cell).samples ≡ (crop P (cell_at cells n)).samples =
    ap (λ (L : Lent). (part_of L cell).samples) c.view.ensures
    ∙ part_is P c.loop-k.patch c.fetch.new.self cell copies inside of c.fetch.ensures.planes
    ∙ ap (λ (x : Rect). (crop P x).samples) is in
    put_right _ _ 0 n _ P cells c.put.ensures.takes xs (was.right right)

pub loop-k-preserved : goal.loop-k-preserved
loop-k-preserved g c =
    let was = c.loop-k.invariant in
    let told = c.fetch.ensures in
    let P : Plane = g.B.Base.plane c.args.base.now in
    let cells : List Rect = g.B.Base.cells_of c.args.base.now in
    let numbers = c.args.numbers.now in
    let i : ℕ = c.loop-k.k-index in
    let n : ℕ = get_or numbers i 0 in
    let cell : Rect = cell_at c.args.cells.now n in
    let within : i < length numbers = omega arith in
    let is : cell ≡ cell_at cells n = ap (λ (xs : List Rect). cell_at xs n) c.requires.cells in
    let inside : LiesIn cell c.loop-k.patch.rect = subst (λ (x : Rect). LiesIn cell x) (sym was.rect)
    (subst (λ (x : Rect). LiesIn x c.args.patch.now.rect) (sym is) (c.requires.inside i 0 within)) in
    let of : P.planes ≡ c.loop-k.patch.planes = sym (was.planes ∙ c.requires.planes) in
    let planes : c.view.result.planes ≡ P.planes = ap (λ (L : Lent). L.planes) c.view.ensures ∙ told.planes ∙ was.planes
    ∙ c.requires.planes in
    let copies = subst (λ (Q : Plane). CopiesFrom c.loop-k.patch c.fetch.new.self (lent_crop Q cell)
    c.loop-k.patch.rect) was.plane told.fetched in
    record {
      rect = told.rect ∙ was.rect;
      planes = told.planes ∙ was.planes;
      marks = c.put.ensures.marks ∙ was.marks;
      copied = λ wanted done had. cells_next P c.loop-k.patch c.fetch.new.self wanted cells done numbers i cell within
          is (was.copied wanted done had) copies told.rect told.planes;
      right = λ right.
          let xs : (part_of c.view.result cell).samples ≡ (crop P (cell_at cells n)).samples =
          ap (λ (L : Lent). (part_of L cell).samples) c.view.ensures
          ∙ part_is P c.loop-k.patch c.fetch.new.self cell copies inside of told.planes
          ∙ ap (λ (x : Rect). (crop P x).samples) is in
          put_right _ _ 0 n _ P cells c.put.ensures.takes xs (was.right right);
      others = put_others _ _ _ 0 n _ was.others c.put.ensures.takes;
      kept =
          put_step _ _ _ 0 (size_of cells P.planes) numbers i _ within was.kept c.in_ok-put.ensures.kept
          (ap (λ (x : Rect). area_of x * c.view.result.planes) is
          ∙ ap (λ (m : ℕ). area_of (cell_at cells n) * m) planes);
      absent = absent_step _ _ 0 _ numbers i c.requires.rising c.put.ensures.takes was.absent;
      work = omega (arith, told.work, was.work);
      count = told.count ∙ ap (λ m. raised m 1) was.count ∙ raised_more _ i 1;
      plane = told.plane ∙ was.plane;
      base_cells = told.cells ∙ was.base_cells;
    }
