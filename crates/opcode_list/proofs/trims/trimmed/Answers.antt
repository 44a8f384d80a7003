use Rattle.std.proofs.Common.{ap, arith, subst, sym, ◌∙◌}
use Rattle.std.proofs.lemmas.List.Elements.{All-get_or}
use Rattle.opcode_list.specs.Params.{CanRun}
use Rattle.text_line.specs.Chain.{ok_unless}
use Rattle.opcode_list.specs.Trims.{left_after}
use Rattle.opcode_list.proofs.TrimLemmas.{all_fit, all_left, fits_on, left_on, misfits, part_on}
use Rattle.opcode_list.proofs.trims.trimmed.Goals as goal

pub returns-then-not-fits-clause-answer : goal.returns-then-not-fits-clause-answer
returns-then-not-fits-clause-answer c =
    let l = c.loop-index in
    let opcode = c.index-opcodes-index.result in
    let unfit = misfits c.args.opcodes.now l.index opcode l.left (omega arith) c.index-opcodes-index.is
    (sym c.fits.ensures ∙ c.if-not-fits.true) in
    ap (λ misfit. ok_unless misfit (left_after c.args.opcodes.now c.args.shape)) (sym unfit ∙ l.invariant.fits)

pub loop-index-preserved : goal.loop-index-preserved
loop-index-preserved c =
    let l = c.loop-index in
    let opcodes = c.args.opcodes.now in
    let opcode = c.index-opcodes-index.result in
    let is = c.index-opcodes-index.is in
    let fit = sym c.fits.ensures ∙ c.if-not-fits.false in
    let runs = subst CanRun (sym is) (All-get_or CanRun opcodes l.index opcode (omega arith) c.requires.can_run) in
    rw c.left_by-left.ensures record {
      fits = sym (fits_on opcodes l.index opcode l.left (omega arith) is fit) ∙ l.invariant.fits;
      left = sym (left_on opcodes l.index opcode l.left (omega arith) is) ∙ l.invariant.left;
      part = part_on opcode c.args.shape l.left runs fit l.invariant.part;
    }

pub returns-clause-answer : goal.returns-clause-answer
returns-clause-answer c =
    let l = c.loop-index in
    let opcodes = c.args.opcodes.now in
    let fit = sym (all_fit opcodes l.index l.left c.loop-index-test.false) ∙ l.invariant.fits in
    let left = sym (all_left opcodes l.index l.left c.loop-index-test.false) ∙ l.invariant.left in
    λ i. ok_unless (fit i) (left i)
