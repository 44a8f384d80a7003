use Rattle.std.proofs.Common.{arith, refl, sym, ◌∙◌}
use Rattle.std.proofs.lemmas.Result.{err_from_is_err_and}
use Rattle.ljpeg_predict.proofs.HeaderLemmas.{tables_refused, tables_end, tables_next}
use Rattle.ljpeg_predict.proofs.headers.read_tables.Goals as goal

pub loop-number-init : goal.loop-number-init
loop-number-init c = record { fuel = _; enough = omega arith; same = refl }

pub returns-in_err-number : goal.returns-in_err-number
returns-in_err-number c =
    let p = err_from_is_err_and c.from_residual.result c.from_residual.ensures.1 in
    rw (p.1, p.2) (tables_refused _ _ _ _ _ c.loop-number.invariant c.in_err-number.ensures.gives)

pub returns-then-is_empty : goal.returns-then-is_empty
returns-then-is_empty c =
    rw c.from.ensures (tables_end _ _ _ _ _ c.loop-number.invariant c.in_ok-number.ensures.shorter
    c.in_ok-number.ensures.gives (sym c.is_empty.ensures ∙ c.if-is_empty.true))

pub loop-number-preserved : goal.loop-number-preserved
loop-number-preserved c =
    rw c.from.ensures (tables_next _ _ _ _ _ c.loop-number.invariant c.in_ok-number.ensures.shorter
    c.in_ok-number.ensures.gives (sym c.is_empty.ensures ∙ c.if-is_empty.false))
