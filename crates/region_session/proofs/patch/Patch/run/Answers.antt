use Rattle.std.proofs.Common.{◌≡◌, length, arith}
use Rattle.region_session.proofs.Writing.{vector_copies}
use Rattle.region_session.proofs.patch.Patch.run.Goals as goal

pub returns-clause-made : goal.returns-clause-made
returns-clause-made g c P is_P agrees =
    let long : c.self.inside.samples.len ≡ length c.run_into.new.memory =
    omega (arith, c.deref_mut.ensures.len, c.run_into.auto.memory) in
    vector_copies _ c.args.self.now c.self.inside.rect c.self.inside.planes c.self.inside.samples.len
    c.self.inside.samples.items c.deref_mut.result.now c.run_into.new.memory c.self.view_is
    c.deref_mut.ensures.value long (c.run_into.ensures.made P is_P agrees)
