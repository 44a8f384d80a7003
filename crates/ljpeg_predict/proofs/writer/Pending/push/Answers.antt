use Rattle.std.proofs.Common.{◌-◌, arith, refl}
use Rattle.std.proofs.Transfers.{starts_with_of_eq, starts_with_trans}
use Rattle.ljpeg_predict.proofs.WriterLemmas.{adds_byte, adds_nothing, joined, joined_fits}
use Rattle.ljpeg_predict.proofs.writer.Pending.push.Goals as goal

pub overflow_mul-word : goal.overflow_mul-word
overflow_mul-word c = let fits =
    joined_fits c.args.self.word c.args.size c.args.number c.requires.size c.requires.number in omega arith

pub overflow_add-word : goal.overflow_add-word
overflow_add-word c = let fits =
    joined_fits c.args.self.word c.args.size c.args.number c.requires.size c.requires.number in omega arith

pub loop-held-init : goal.loop-held-init
loop-held-init c = record {
  bits = adds_nothing _ _ _ _
      (joined c.args.self.held c.args.self.word c.args.size c.args.number c.requires.held c.requires.size
      c.requires.number);
  kept = starts_with_of_eq _ _ refl;
  short = omega arith;
  narrow = joined_fits c.args.self.word c.args.size c.args.number c.requires.size c.requires.number;
}

pub loop-held-preserved : goal.loop-held-preserved
loop-held-preserved c =
    let at = c.loop-held in
    record {
      bits = adds_byte _ _ _ _ _ at.held (at.held - 8) _
          (omega arith) at.invariant.bits refl c.in_ok-push_byte.ensures.ok;
      kept = starts_with_trans _ _ _ c.in_ok-push_byte.ensures.kept at.invariant.kept;
      short = omega arith;
      narrow = at.invariant.narrow;
    }
