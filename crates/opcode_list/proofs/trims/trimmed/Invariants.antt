use Rattle.std.proofs.Common.{◌≡◌, drop}
use Rattle.opcode_list.specs.Trims.{IsPartOf, first_misfit, left_after}
use Rattle.opcode_list.proofs.trims.trimmed.Given as goal

abbrev pub invariant-loop-index : goal.invariant-loop-index
invariant-loop-index l = record {
  fits : first_misfit l.index (drop l.index l.opcodes) l.left ≡ first_misfit 0 l.opcodes l.fn.shape;
  left : left_after (drop l.index l.opcodes) l.left ≡ left_after l.opcodes l.fn.shape;
  part : IsPartOf l.fn.shape l.left;
}
