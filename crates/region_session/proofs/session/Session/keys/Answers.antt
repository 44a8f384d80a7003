use Rattle.std.proofs.Common.{◌≡◌, sym, ◌∙◌, length, Vec, Global}
use Rattle.std.specs.Result.{IfOk}
use Rattle.std.specs.Map.{keys_of}
use Rattle.std.proofs.lemmas.Result.{IfOk-weaker}
use Rattle.std.proofs.lemmas.Map.Made.{keys_of-map_values}
use Rattle.tile_cache.specs.declared.Key.{Key}
use Rattle.tile_cache.specs.Cache.{sizes}
use Rattle.region_session.proofs.session.Session.keys.Goals as goal

pub returns : goal.returns
returns g c =
    let pairs = c.self.inside.tiles.cells.pairs in
    let held : IfOk c.keys.result (λ (keys : Vec Key Global). keys.items ≡ keys_of (sizes pairs)) =
    IfOk-weaker c.keys.result (λ keys. keys.items ≡ keys_of pairs) _
    (λ keys is. is ∙ sym (keys_of-map_values length pairs)) c.keys.ensures in
    rw (← c.self.view_is) held
