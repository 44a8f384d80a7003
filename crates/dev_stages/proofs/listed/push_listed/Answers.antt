use Rattle.std.proofs.Common.{◌++◌, sym, ◌∙◌, ap}
use Rattle.std.proofs.lemmas.List.{append-nil}
use Rattle.dev_stages.proofs.ListLemmas.{all_listed, pushed_on}
use Rattle.dev_stages.proofs.listed.push_listed.Goals as goal

pub loop-opcode-preserved : goal.loop-opcode-preserved
loop-opcode-preserved c =
    let l = c.loop-opcode in
    pushed_on c.args.opcodes.now l.opcode-index c.opcode-item.result l.stages.items _ _ c.loop-opcode-test.true
    c.opcode-item.is c.in_ok-push_opcode.ensures l.invariant

pub returns : goal.returns
returns c =
    let l = c.loop-opcode in
    sym (append-nil l.stages.items)
    ∙ ap (λ xs. l.stages.items ++ xs) (sym (all_listed c.args.opcodes.now l.opcode-index c.loop-opcode-test.false))
    ∙ l.invariant
