use Rattle.std.proofs.Common.{◌≡◌, ◌∙◌, List, ℕ, sym, ap, is_some, option_map}
use Rattle.std.specs.Map.{lookup}
use Rattle.tile_cache.specs.Cache.{after_get, same_key}
use Rattle.tile_cache.specs.Pairs.{Cache}
use Rattle.tile_cache.specs.declared.Key.{Key}
use Rattle.kept_cells.specs.Kept.{key_at}
use Rattle.kept_cells.specs.Tiling.{kept_in}
use Rattle.kept_cells.proofs.Tiled.{found_held, found_kept, unfound_kept, found_keys}
use Rattle.kept_cells.proofs.TilesCache.find.Goals as goal

pub invariant_of-self : goal.invariant_of-self
invariant_of-self c =
    let old = c.args.self.now in
    record {
      keys = found_keys old.cells _ old.stamps.changes c.key-key.result old.keys c.get.follows.holds-at-none;
      same = old.same ∙ sym (ap (λ (d : Cache). d.budget) c.get.follows.holds-at-none);
    }

pub invariant_of-self-in-None : goal.invariant_of-self-in-None
invariant_of-self-in-None c =
    let old = c.args.self.now in
    record {
      keys = found_keys old.cells _ old.stamps.changes c.key-key.result old.keys c.get.follows.holds-at-none;
      same = old.same ∙ sym (ap (λ (d : Cache). d.budget) c.get.follows.holds-at-none);
    }

pub returns-in-Some-clause-held : goal.returns-in-Some-clause-held
returns-in-Some-clause-held c =
    let old = c.args.self.now in
    let stamps : List ℕ = old.stamps.stamps in
    let is : c.get.follows.lender-at-none ≡ after_get (key_at (kept_in old.cells stamps) c.args.plane c.args.cell)
    old.cells = c.get.follows.holds-at-none ∙ ap (λ (k : Key). after_get k old.cells) c.key-key.ensures.key in
    found_held old.cells _ stamps c.args.plane c.args.cell is

pub returns-in-Some-clause-brings : goal.returns-in-Some-clause-brings
returns-in-Some-clause-brings c =
    let old = c.args.self.now in
    let stamps : List ℕ = old.stamps.stamps in
    let is : c.get.follows.lender-at-none ≡ after_get (key_at (kept_in old.cells stamps) c.args.plane c.args.cell)
    old.cells = c.get.follows.holds-at-none ∙ ap (λ (k : Key). after_get k old.cells) c.key-key.ensures.key in
    λ _. found_kept old.cells _ stamps c.args.plane c.args.cell is

pub returns-in-None-clause-held : goal.returns-in-None-clause-held
returns-in-None-clause-held c =
    let old = c.args.self.now in
    let stamps : List ℕ = old.stamps.stamps in
    let is : c.get.follows.lender-at-none ≡ after_get (key_at (kept_in old.cells stamps) c.args.plane c.args.cell)
    old.cells = c.get.follows.holds-at-none ∙ ap (λ (k : Key). after_get k old.cells) c.key-key.ensures.key in
    found_held old.cells _ stamps c.args.plane c.args.cell is

pub returns-in-None-clause-leaves : goal.returns-in-None-clause-leaves
returns-in-None-clause-leaves c =
    let old = c.args.self.now in
    let stamps : List ℕ = old.stamps.stamps in
    let is : c.get.follows.lender-at-none ≡ after_get (key_at (kept_in old.cells stamps) c.args.plane c.args.cell)
    old.cells = c.get.follows.holds-at-none ∙ ap (λ (k : Key). after_get k old.cells) c.key-key.ensures.key in
    λ _. unfound_kept old.cells _ stamps c.args.plane c.args.cell is
    (ap (λ (k : Key). is_some (lookup (same_key k) old.cells.pairs)) (sym c.key-key.ensures.key)
    ∙ ap is_some (sym c.get.ensures.samples)
    ∙ ap (λ o. is_some (option_map (λ s. s.now) o)) c.in-None.is)
