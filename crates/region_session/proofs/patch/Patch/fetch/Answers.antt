use Rattle.std.proofs.Common.{◌≡◌, length, arith}
use Rattle.region_session.proofs.Writing.{vector_copies}
use Rattle.region_session.proofs.patch.Patch.fetch.Goals as goal

pub returns-clause-fetched : goal.returns-clause-fetched
returns-clause-fetched g c =
    let long : c.self.inside.samples.len ≡ length c.fetch_into.new.memory =
    omega (arith, c.deref_mut.ensures.len, c.fetch_into.auto.memory) in
    vector_copies _ c.args.self.now c.self.inside.rect c.self.inside.planes c.self.inside.samples.len
    c.self.inside.samples.items c.deref_mut.result.now c.fetch_into.new.memory c.self.view_is
    c.deref_mut.ensures.value long c.fetch_into.ensures.fetched
