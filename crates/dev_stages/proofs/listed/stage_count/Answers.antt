use Rattle.std.proofs.Common.{length, ap, arith}
use Rattle.dev_stages.proofs.ListLemmas.{all_listed, counted_on}
use Rattle.dev_stages.proofs.listed.stage_count.Goals as goal

pub loop-opcode-preserved : goal.loop-opcode-preserved
loop-opcode-preserved c =
    let l = c.loop-opcode in
    let next = counted_on c.args.opcodes.now l.opcode-index c.opcode-item.result c.loop-opcode-test.true
    c.opcode-item.is in
    record {
      count = omega (arith, next, c.count_of-count.ensures.count, l.invariant.count);
      few = omega (arith, c.count_of-count.ensures.few, l.invariant.few);
    }

pub returns-clause-count : goal.returns-clause-count
returns-clause-count c =
    let l = c.loop-opcode in
    let none = ap length (all_listed c.args.opcodes.now l.opcode-index c.loop-opcode-test.false) in
    omega (arith, none, l.invariant.count)
