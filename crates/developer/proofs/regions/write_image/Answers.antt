use Rattle.std.proofs.Common.{ℕ}
use Rattle.std.proofs.lemmas.Result.{err_from_is_err_and}
use Rattle.plane_view.specs.Plane.{Plane}
use Rattle.stage_chain.specs.Chains.{whole_of}
use Rattle.dev_stages.specs.Members.{apply_of}
use Rattle.developer.specs.Sessions.{bands_of}
use Rattle.developer.specs.declared.writing.Cause.TheVariants.{Memory}
use Rattle.developer.proofs.Bandwise.{none_made}
use Rattle.developer.proofs.Images.{reply_pieces}
use Rattle.developer.proofs.Written.{writes_same}
use Rattle.developer.proofs.regions.write_image.Goals as goal

pub returns-clause-writes : goal.returns-clause-writes
returns-clause-writes g c =
    let P : Plane = whole_of apply_of c.args.session.now.stages c.args.session.now.plane in
    writes_same g.O.Sink.stands_for g.O.Sink.faults c.args.out.now c.write_bands.new.out _ _ (λ (n : ℕ). n)
    c.write_bands.result
    (reply_pieces c.args.format P c.args.rect c.push_heads.new.piece c.requires.develops.developed
    c.push_heads.ensures.heads) c.write_bands.ensures.writes

pub returns-in_err-piece-clause-left : goal.returns-in_err-piece-clause-left
returns-in_err-piece-clause-left g c =
    let p = err_from_is_err_and c.from_residual.result c.from_residual.ensures.1 in
    rw (p.1, p.2) (none_made Memory c.args.session.now (bands_of c.args.session.now.side c.args.rect) c.args.work.now)

pub returns-in_err-samples-clause-left : goal.returns-in_err-samples-clause-left
returns-in_err-samples-clause-left g c =
    let p = err_from_is_err_and c.from_residual-in_err-samples.result c.from_residual-in_err-samples.ensures.1 in
    rw (p.1, p.2) (none_made Memory c.args.session.now (bands_of c.args.session.now.side c.args.rect) c.args.work.now)
