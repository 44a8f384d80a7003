use Rattle.std.proofs.Common.{◌≡◌, ℕ, ◌+◌, ◌<◌, ◌++◌, [], ◌∷◌, List, length, cond, get_or, take, sym, ◌∙◌, ap, subst}
use Rattle.std.proofs.Common.{arith}
use Rattle.std.proofs.lemmas.List.{take_all, append-nil, get_or-map}
use Rattle.plane_view.specs.declared.Rect.{Rect}
use Rattle.plane_view.specs.Lent.{Lent}
use Rattle.plane_view.specs.Tiles.{CopiesFrom}
use Rattle.stage_deps.specs.Cells.{cell_at, no_rect}
use Rattle.kept_cells.specs.Held.{Held, SameHeld, fresh, missing}
use Rattle.kept_cells.proofs.Keeping.{brought_step}
use Rattle.kept_cells.proofs.Lower.{missing_step}
use Rattle.region_session.specs.inner.Parts.{HasCells, HasWanted}
use Rattle.region_session.proofs.Copying.{copied_step}
use Rattle.region_session.proofs.planes.copy_fresh.Goals as goal
use Rattle.region_session.proofs.planes.copy_fresh.Goals.{then-not-find+in_ok-push, else-not-find}

pub loop-i-preserved : goal.loop-i-preserved
loop-i-preserved g c =
    let was = c.loop-i.invariant in
    let told = c.find.ensures in
    let held : Held = g.C.Cache.held c.args.cache.now in
    let plane : ℕ = c.args.plane in
    let numbers = c.args.numbers.now in
    let i : ℕ = c.loop-i.i in
    let n : ℕ = get_or numbers i 0 in
    let within : i < length numbers = omega arith in
    let same : SameHeld held (g.C.Cache.held c.find.new.cache) = record {
      holds = λ p k. told.held.holds p k
          ∙ was.same.holds p k;
      samples = λ p k. told.held.samples p k ∙ was.same.samples p k;
    } in
    let is : c.find.result ≡ held.holds plane n = told.found ∙ was.same.holds plane n in
    let step : missing held plane (take (i + 1) numbers) ≡ missing held plane (take i numbers)
    ++ cond c.find.result [] (n ∷ []) = missing_step held plane numbers i c.find.result within is in
    record {
      rect = told.rect ∙ was.rect;
      planes = told.planes ∙ was.planes;
      same = same;
      marks = told.marks ∙ was.marks;
      kept = brought_step _ _ _ held plane numbers i c.find.result within is was.kept told.brings told.leaves;
      missing = elim c.if-not-find.branch [
        | then-not-find+in_ok-push w ↦ ap (λ v. v.items) w.rest-is ∙ w.in_ok-push.ensures.items
            ∙ ap (λ (xs : List ℕ). xs ++ n ∷ []) was.missing
            ∙ sym (step ∙ ap (λ b. missing held plane (take i numbers) ++ cond b [] (n ∷ [])) w.if-not-find.true)
        | else-not-find w ↦ ap (λ v. v.items) w.rest-is ∙ was.missing
            ∙ sym (step ∙ ap (λ b. missing held plane (take i numbers) ++ cond b [] (n ∷ [])) w.if-not-find.false
            ∙ append-nil _)
      ];
      cells = λ P wanted cells has planes are inside right.
          let here : cell_at c.args.rects.now i ≡ cell_at cells n = ap (λ (xs : List Rect). cell_at xs i) are
          ∙ get_or-map (cell_at cells) numbers i 0 no_rect within in
          copied_step P _ _ c.args.window wanted cells c.args.patch.now.planes held plane numbers i c.find.result within
          (inside i 0 within) is (was.cells P wanted cells has planes are inside right) right planes
          (λ found.
          subst (λ (L : Lent). CopiesFrom c.loop-i.patch c.find.new.self L c.args.window)
          (λ j. record { rect = here j; planes = was.planes j; samples = was.same.samples plane n j })
          (told.copies found))
          told.stays (subst (λ (x : Rect). HasWanted c.args.window x wanted) (sym was.rect) has) told.rect told.planes;
    }

pub returns-clause-cells : goal.returns-clause-cells
returns-clause-cells g c = λ P wanted cells has planes are inside right.
    subst (λ (xs : List ℕ). HasCells P c.loop-i.patch wanted cells (fresh (g.C.Cache.held c.args.cache.now) c.args.plane
    xs)) (take_all c.loop-i.i c.args.numbers.now (omega arith))
    (c.loop-i.invariant.cells P wanted cells has planes are inside right)
