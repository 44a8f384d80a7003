use Rattle.std.proofs.Common.{sym, ◌∙◌, ap, arith}
use Rattle.tiff_dirs.specs.Header.{directory_of}
use Rattle.dng_tags.specs.Origin.{refusing}
use Rattle.dng_tags.proofs.OriginLemmas.{first_raw_passed}
use Rattle.dng_tags.proofs.origin.first_raw.Goals as goal

pub loop-i-preserved : goal.loop-i-preserved
loop-i-preserved c =
    c.loop-i.invariant
    ∙ first_raw_passed c.args.tiff.now c.args.offsets.now c.loop-i.i c.in_ok-dir.dir c.in_ok-subfile_type.field-0
    (omega arith)
    (ap (λ at. refusing (directory_of c.args.tiff.now at)) (sym c.at.ensures)
    ∙ (ap refusing (sym c.dir.ensures) ∙ (sym c.refuse.ensures ∙ c.in_ok-dir.was)))
    (sym c.subfile_type.ensures ∙ c.in_ok-subfile_type.was) c.if-branch-eq0.false
