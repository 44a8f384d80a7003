use Rattle.std.proofs.Common.{arith, refl, length-set, ◌∙◌}
use Rattle.ljpeg_huffman.proofs.ShortLemmas.{none_short, more_short}
use Rattle.ljpeg_huffman.proofs.table.short_codes.Goals as goal

pub loop-place-init : goal.loop-place-init
loop-place-init c = (refl, λ k. none_short c.args.counts.now c.args.values.now 512 k)

pub loop-place-preserved : goal.loop-place-preserved
loop-place-preserved c =
    let at = c.loop-place in (
      length-set _ _ _ ∙ at.invariant.0,
      more_short c.args.counts.now c.args.values.now at.short at.place c.short_code.result
          (omega (arith, at.invariant.0)) at.invariant.1 c.short_code.ensures,
    )
