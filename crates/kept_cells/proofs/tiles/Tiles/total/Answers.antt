use Rattle.std.proofs.Common.{ℕ, sym, ◌∙◌, refl}
use Rattle.tile_cache.specs.Cache.{size}
use Rattle.tile_cache.specs.Pairs.{Pair}
use Rattle.tile_cache.specs.declared.Key.{Key}
use Rattle.tile_cache.proofs.Kept.{sum_by-kept}
use Rattle.kept_cells.proofs.tiles.Tiles.total.Goals as goal

pub returns-clause-sum : goal.returns-clause-sum
returns-clause-sum c = c.total.ensures.total
    ∙ sym (sum_by-kept (λ (pair : Pair). (pair.0, size pair)) size (λ (item : Key × ℕ). item.1) (λ _. refl)
    c.args.self.now.cells.pairs)
