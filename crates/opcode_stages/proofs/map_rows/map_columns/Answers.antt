use Rattle.std.proofs.Common.{◌-◌, ◌∙◌, ap, min, get_or, length, arith}
use Rattle.std.proofs.lemmas.Nat.{mul-add-lt}
use Rattle.opcode_stages.proofs.Columns.{maps_more, next_step}
use Rattle.opcode_stages.proofs.map_rows.map_columns.Goals as goal

pub loop-k-preserved : goal.loop-k-preserved
loop-k-preserved c =
    let k = c.loop-k.k in
    let at = c.args.columns in
    let n = c.args.planes in
    let p = c.args.p in
    let table = c.args.table.now in
    let held = c.loop-k.invariant in
    record {
      above = omega arith;
      step = next_step at.from k at.pitch (omega arith) held.above held.step;
      done = maps_more table c.args.row.now c.loop-k.row n p at.from k at.to at.pitch (get_or table c.min.result 0)
          (omega arith) c.requires.plane held.above held.step (omega arith)
          (omega (arith, mul-add-lt k n p at.to c.loop-k-test.true c.requires.plane, c.loop-k.auto.row))
          (ap (λ m. get_or table m 0) (c.min.ensures ∙ ap (λ m. min m (length table - 1)) c.from.ensures)) held.done;
    }
