use Rattle.std.proofs.Common.{◌≡◌, false, sym, subst}
use Rattle.stage_deps.specs.Stamping.{Stamped}
use Rattle.kept_cells.specs.Tiling.{held_in}
use Rattle.kept_cells.proofs.Stamping.{stale_at}
use Rattle.kept_cells.proofs.tiles.Tiles.change.Goals as goal

pub returns-clause-stale : goal.returns-clause-stale
returns-clause-stale c = λ p k high low.
    let old = c.args.self.now in
    subst (λ (s : Stamped). (held_in old.cells s.stamps).holds p k ≡ false) (sym c.change.ensures)
    (stale_at old.cells old.stamps.stamps old.stamps.changes c.args.plane p k old.keys high low)
