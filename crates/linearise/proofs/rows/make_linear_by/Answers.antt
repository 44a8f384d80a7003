use Rattle.std.proofs.Common.{◌≡◌, ◌*◌, get_or, pos, to_z, of_z, arith}
use Rattle.std.specs.Prelude.{◌+ℤ◌, ◌-ℤ◌}
use Rattle.std.specs.Int.{w32}
use Rattle.std.proofs.lemmas.Int.{ints}
use Rattle.linearise.proofs.LinearRows.{linear_more}
use Rattle.linearise.proofs.rows.make_linear_by.Goals as goal

pub loop-k-preserved : goal.loop-k-preserved
loop-k-preserved c =
    let k = c.loop-k.k in
    let down = to_z w32 (of_z w32 c.args.down) in
    let above = to_z w32 (of_z w32 c.above_black.result) in
    let within = c.requires.across k (omega arith) in
    let level : above ≡ pos (256 * get_or c.loop-k.out k 0) -ℤ (get_or c.args.across.now k (pos 0) +ℤ down) =
    omega (arith, ints, c.above_black.ensures, within) in
    linear_more c.args.scale.span c.args.across.now down c.args.out.now c.loop-k.out k above c.value.result
    (omega arith) c.loop-k.invariant c.value.ensures level
