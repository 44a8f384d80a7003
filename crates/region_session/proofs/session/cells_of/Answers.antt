use Rattle.std.proofs.Common.{◌∷◌, [], ◌++◌, List, sym, ◌∙◌, ap}
use Rattle.plane_view.specs.declared.Rect.{Rect}
use Rattle.region_session.proofs.Layering.{take_next}
use Rattle.region_session.proofs.session.cells_of.Goals as goal

pub loop-k-preserved : goal.loop-k-preserved
loop-k-preserved g c =
    c.in_ok-push.ensures.items
    ∙ ap (λ (xs : List Rect). xs ++ c.cell.result ∷ []) c.loop-k.invariant
    ∙ sym (take_next (g.B.Base.cells_of c.args.base.now) c.loop-k.k c.cell.result c.cell.ensures)
