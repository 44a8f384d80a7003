use Rattle.std.proofs.Common.{◌≡◌, ℕ, ◌+◌, ◌-◌, ◌*◌, ◌∙◌, length, get_or, set, min, ap, sym, subst, arith}
use Rattle.opcode_stages.specs.Maps.{entry_of}
use Rattle.opcode_stages.specs.inner.MapRows.{MapsColumns}
use Rattle.opcode_stages.proofs.Columns.{maps_more}
use Rattle.opcode_stages.proofs.Pitches.{one_mod}
use Rattle.opcode_stages.proofs.map_rows.map_run.Goals as goal

pub loop-k-preserved : goal.loop-k-preserved
loop-k-preserved c =
    let k = c.loop-k.k in
    let from = c.args.from in
    let to = c.args.to in
    let table = c.args.table.now in
    let row = c.loop-k.row in
    let v = get_or table c.min.result 0 in
    let below = c.loop-k-test.true in
    let inside = c.requires.row in
    let long = c.loop-k.auto.row in
    let place : k * 1 + 0 ≡ k = omega arith in
    let entry : v ≡ entry_of table (get_or row k 0) = ap (λ m. get_or table m 0) (c.min.ensures
    ∙ ap (λ m. min m (length table - 1)) c.from.ensures) in
    subst (λ (n : ℕ). MapsColumns table c.args.row.now (set row n v) 1 0 from (min (k + 1) to) 1) place
    (maps_more table c.args.row.now row 1 0 from k to 1 v (omega arith) (omega arith) c.loop-k.auto.k
    (one_mod (k - from)) below (omega arith)
    (entry ∙ ap (λ (n : ℕ). entry_of table (get_or row n 0)) (sym place)) c.loop-k.invariant)
