use Rattle.std.proofs.Common.{Err, FitsSigned, w32, rules, arith, refl, sym, ◌∙◌, subst}
use Rattle.std.proofs.lemmas.Int.{to_z-of_z}
use Rattle.std.proofs.lemmas.Result.{err_from_is_err_and}
use Rattle.ljpeg_huffman.specs.Differences.{IsRefused, SpellsOne}
use Rattle.ljpeg_huffman.proofs.TurnLemmas.{turn_table, turn_goes_on, turn_begins, takes_more, refused_by, stops}
use Rattle.ljpeg_huffman.proofs.bits.Bits.next_differences.Goals as goal
use Rattle.ljpeg_huffman.proofs.bits.Bits.next_differences.Goals.{then-turn-tables, else-turn-tables}

pub returns-in_err-next_difference-clause-fault : goal.returns-in_err-next_difference-clause-fault
returns-in_err-next_difference-clause-fault c =
    let at = c.loop-difference in
    let says = c.in_err-next_difference.ensures in
    let p = err_from_is_err_and c.from_residual.result c.from_residual.ensures.1 in
    let table = turn_table (λ t. t.now) c.args.tables.now at.difference-index at.turn c.index-tables-turn.result
    at.invariant.turn (omega arith) c.index-tables-turn.is in
    let refused = subst (λ t. IsRefused t at.self c.in_err-next_difference.field-0.0) (sym table)
    (refused_by _ _ (Err c.in_err-next_difference.field-0.0) _ refl says.ended says.no_code) in
    rw (p.1, p.2) (stops _ _ _ _ _ _ _ (omega arith) at.auto.line at.invariant.taken refused)

pub loop-difference-preserved : goal.loop-difference-preserved
loop-difference-preserved c =
    let at = c.loop-difference in
    let ok = c.in_ok-next_difference.ensures.ok in
    let table = turn_table (λ t. t.now) c.args.tables.now at.difference-index at.turn c.index-tables-turn.result
    at.invariant.turn (omega arith) c.index-tables-turn.is in
    let fits : FitsSigned w32 c.in_ok-next_difference.field-0 = search rules in
    let number = simp to_z-of_z at c.modulo.ensures in
    record {
      taken = takes_more _ _ _ ok.0 _ _ _ _ _ (omega arith) at.invariant.taken ok.1
          (subst (λ t. SpellsOne t ok.0 c.in_ok-next_difference.field-0) (sym table) ok.2) number;
      turn = elim c.if-turn-tables.branch [
        | then-turn-tables w ↦ w.turn-is ∙ turn_goes_on _ _ _ at.invariant.turn (omega arith)
        | else-turn-tables w ↦ w.turn-is ∙ turn_begins _ _ _ at.invariant.turn (omega arith) (omega arith)
      ];
    }
