use Rattle.std.proofs.Common.{rules, refl}
use Rattle.std.proofs.lemmas.Slice.{overwrites}
use Rattle.region_session.proofs.Writing.{memory_copies}
use Rattle.region_session.proofs.patch.run_into.Goals as goal

pub returns-clause-made : goal.returns-clause-made
returns-clause-made g c P is_P agrees =
    memory_copies _ _ c.args.rect c.args.planes c.args.memory.now _ c.run_tile.new.samples _ refl (search rules)
    (search (rules, overwrites)) (c.run_tile.ensures.made P is_P agrees)
