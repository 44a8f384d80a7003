use Rattle.std.proofs.Common.{length, ap, arith}
use Rattle.std.proofs.lemmas.Result.{err_from_is_err_and}
use Rattle.stage_chain.specs.Chains.{whole_of}
use Rattle.dev_stages.specs.Members.{apply_of}
use Rattle.developer.proofs.Images.{length-part}
use Rattle.developer.proofs.regions.write_band.Goals as goal

pub write_samples-requires-clause-few : goal.write_samples-requires-clause-few
write_samples-requires-clause-few g c =
    omega (
      arith,
      c.requires.few,
      ap length c.in-Ok.ensures.crop,
      length-part (whole_of apply_of c.args.session.now.stages c.args.session.now.plane) c.args.band
          c.requires.develops.developed,
    )

pub returns-in_err-write_samples-in-Ok-clause-stops : goal.returns-in_err-write_samples-in-Ok-clause-stops
returns-in_err-write_samples-in-Ok-clause-stops g c first all h =
    let p = err_from_is_err_and c.from_residual.result c.from_residual.ensures.1 in
    rw (p.1, p.2, ← c.in-Ok.ensures.crop) (c.in_err-write_samples-in-Ok.ensures.stops first all h)
