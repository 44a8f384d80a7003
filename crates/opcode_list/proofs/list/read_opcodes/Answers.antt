use Rattle.std.proofs.Common.{◌≡◌, ◌++◌, ◌∷◌, [], arith, sym}
use Rattle.std.proofs.lemmas.Grind.{common_steps}
use Rattle.std.proofs.lemmas.Result.{err_from_is_err_and}
use Rattle.opcode_list.proofs.Walk.{begins, ends, goes_on, stops, stops_short}
use Rattle.opcode_list.proofs.list.read_opcodes.Goals as goal

pub loop-index-init : goal.loop-index-init
loop-index-init c = rw c.new-opcodes.ensures.items (begins c.args.list c.args.count c.args.bytes.now)

pub returns-in_default-clause-answer : goal.returns-in_default-clause-answer
returns-in_default-clause-answer c other =
    stops_short c.loop-index.invariant c.loop-index-test.true (sym c.in_default.ensures.opcode)

pub returns-in_err-opcode-clause-answer : goal.returns-in_err-opcode-clause-answer
returns-in_err-opcode-clause-answer c =
    let p = err_from_is_err_and c.from_residual.result c.from_residual.ensures.1 in
    rw (p.1, p.2) (λ other.
    stops c.loop-index.invariant c.loop-index-test.true (sym c.in-Some.ensures.opcode)
    (c.in_err-opcode.ensures.answer other))

pub loop-index-preserved : goal.loop-index-preserved
loop-index-preserved c =
    let pushed : c.push.new.self.items ≡ c.loop-index.opcodes.items ++ c.in_ok-opcode.opcode ∷ [] =
    grind (arith, common_steps) in
    let cut = sym c.in-Some.ensures.opcode in
    let read = c.in_ok-opcode.ensures in
    rw (pushed, c.in-Some.ensures.rest)
    (goes_on c.loop-index.invariant c.loop-index-test.true cut read.answer read.can_run)

pub returns-clause-answer : goal.returns-clause-answer
returns-clause-answer c = rw c.from_vec.ensures (ends c.loop-index.invariant c.loop-index-test.false)
