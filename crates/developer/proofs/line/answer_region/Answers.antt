use Rattle.std.proofs.Common.{◌≡◌, ℕ, List, [], Option, None, Some, refl, sym, ap, subst}
use Rattle.std.specs.Prelude.{⊤}
use Rattle.plane_view.specs.Plane.{Plane}
use Rattle.plane_view.specs.declared.Rect.{Rect}
use Rattle.stage_chain.specs.Chains.{whole_of}
use Rattle.dev_stages.specs.Members.{apply_of}
use Rattle.developer.specs.Answered.{AreMade, MadeUpTo}
use Rattle.developer.specs.Replies.{bands_in, part_of}
use Rattle.developer.proofs.Bandwise.{made_none, none_made}
use Rattle.developer.proofs.Development.{makes_developed}
use Rattle.developer.proofs.Replying.{if_err, if_err_any}
use Rattle.developer.proofs.Images.{reply_none, reply_some}
use Rattle.developer.proofs.Written.{writes_same}
use Rattle.developer.proofs.line.answer_region.Goals as goal

pub write_image-requires-clause-develops : goal.write_image-requires-clause-develops
write_image-requires-clause-develops g c =
    let p = c.part.ensures.plane in
    makes_developed c.args.session.now.plane c.args.session.now.stages p.0 p.1 p.2 p.3 c.requires.planes

pub returns-in-Some-clause-writes : goal.returns-in-Some-clause-writes
returns-in-Some-clause-writes g c =
    let P : Plane = whole_of apply_of c.args.session.now.stages c.args.session.now.plane in
    let part : Option Rect = part_of P c.args.x c.args.y c.args.w c.args.h in
    writes_same g.O.Sink.stands_for g.O.Sink.faults c.args.out.now c.write_image.new.out _ _ (λ (n : ℕ). n)
    c.write_image.result
    (sym (reply_some P c.args.format part c.in-Some.rect (sym c.in-Some.ensures.rect))) c.write_image.ensures.writes

pub returns-in-None-clause-writes : goal.returns-in-None-clause-writes
returns-in-None-clause-writes g c =
    let P : Plane = whole_of apply_of c.args.session.now.stages c.args.session.now.plane in
    let part : Option Rect = part_of P c.args.x c.args.y c.args.w c.args.h in
    writes_same g.O.Sink.stands_for g.O.Sink.faults c.args.out.now c.write_reply.new.out _ _ (λ (n : ℕ). n)
    c.write_reply.result
    (sym (reply_none P c.args.format part (sym c.in-None.ensures.rect))) c.write_reply.ensures

pub returns-in-None-clause-left : goal.returns-in-None-clause-left
returns-in-None-clause-left g c =
    if_err c.write_reply.result (λ stop. ⊤) _ (λ stop any. none_made stop.cause c.args.session.now _ c.args.work.now)
    (if_err_any c.write_reply.result)
