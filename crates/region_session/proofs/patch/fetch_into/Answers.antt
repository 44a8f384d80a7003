use Rattle.std.proofs.Common.{rules, refl}
use Rattle.std.proofs.lemmas.Slice.{overwrites}
use Rattle.region_session.proofs.Writing.{memory_copies}
use Rattle.region_session.proofs.patch.fetch_into.Goals as goal

pub returns-clause-fetched : goal.returns-clause-fetched
returns-clause-fetched g c =
    memory_copies _ _ c.args.rect c.args.planes c.args.memory.now _ c.fetch_tile.new.samples _ refl (search rules)
    (search (rules, overwrites)) c.fetch_tile.ensures.fetched
