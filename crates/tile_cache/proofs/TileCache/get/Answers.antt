use Rattle.std.proofs.Common.{◌∙◌, ap, refl}
use Rattle.std.specs.Map.{lookup}
use Rattle.tile_cache.specs.Cache.{same_key}
use Rattle.tile_cache.proofs.Values.{lookup-promoted}
use Rattle.tile_cache.proofs.TileCache.get.Goals as goal

pub returns : goal.returns
returns c =
    let test = same_key c.args.key.now in
    let same = ap (λ after. lookup test after.pairs) c.bring_to_front.ensures in (
      (refl, λ _. tt, c.bring_to_front.ensures),
      record { after = tt; samples = c.peek.ensures ∙ (same ∙ lookup-promoted test c.args.self.now.pairs) },
    )
