use Rattle.std.proofs.Common.{◌≡◌, ◌∙◌, ℕ, List, length, OnOk, Result, Ok, Err, sym, ap, subst}
use Rattle.std.specs.Prelude.{OnErr}
use Rattle.tile_cache.specs.Cache.{after_drops, after_put}
use Rattle.tile_cache.specs.Pairs.{Cache}
use Rattle.tile_cache.specs.declared.Key.{Key}
use Rattle.kept_cells.specs.Held.{Takes}
use Rattle.kept_cells.specs.Tiling.{held_in}
use Rattle.kept_cells.proofs.Tiled.{refused_keys, refused_takes, stored_keys, stored_takes}
use Rattle.kept_cells.proofs.TilesCache.put.Goals as goal

either : {T E : Type 0} (r : Result T E) (A B P : Type 0) → (A → P) → (B → P) → OnOk r A → OnErr r B → P
either (Ok x) A B P f h a b = f a
either (Err e) A B P f h a b = h b

pub returns-clause-takes : goal.returns-clause-takes
returns-clause-takes c =
    let old = c.args.self.now in
    let stamps : List ℕ = old.stamps.stamps in
    let xs = c.in_ok-samples.samples.items in
    let taken : Takes (held_in old.cells stamps) (held_in c.put.new.self stamps) c.args.plane c.args.cell xs =
    either c.put.result _ _ _
    (λ (is : c.put.new.self ≡ after_put c.key-key.result xs old.cells). stored_takes old.cells _ stamps c.args.plane
    c.args.cell xs c.requires.absent (is ∙ ap (λ (k : Key). after_put k xs old.cells) c.key-key.ensures.key))
    (λ (is : c.put.new.self ≡ after_drops (length xs) old.cells). refused_takes old.cells _ stamps c.args.plane
    c.args.cell (length xs) xs c.requires.absent is)
    c.put.ensures.stored c.put.ensures.refused in
    subst (λ (ys : List ℕ). Takes (held_in old.cells stamps) (held_in c.put.new.self stamps) c.args.plane c.args.cell
    ys) c.in_ok-samples.ensures.samples taken

pub invariant_of-self : goal.invariant_of-self
invariant_of-self c =
    let old = c.args.self.now in
    let xs = c.in_ok-samples.samples.items in
    record {
      keys =
          either c.put.result _ _ _
          (λ (is : c.put.new.self ≡ after_put c.key-key.result xs old.cells). stored_keys old.cells _ old.stamps.changes
          c.key-key.result xs old.keys c.key-key.ensures.stamp is)
          (λ (is : c.put.new.self ≡ after_drops (length xs) old.cells). refused_keys old.cells _ old.stamps.changes
          (length xs) old.keys is)
          c.put.ensures.stored c.put.ensures.refused;
      same =
          either c.put.result _ _ _
          (λ (is : c.put.new.self ≡ after_put c.key-key.result xs old.cells). old.same
          ∙ sym (ap (λ (d : Cache). d.budget) is))
          (λ (is : c.put.new.self ≡ after_drops (length xs) old.cells). old.same
          ∙ sym (ap (λ (d : Cache). d.budget) is))
          c.put.ensures.stored c.put.ensures.refused;
    }
