use Rattle.std.proofs.Common.{rules, sym, ◌∙◌}
use Rattle.plane_view.specs.Lent.{Lent}
use Rattle.plane_view.specs.Plane.{Plane}
use Rattle.region_session.proofs.Writing.{slice_copies, tile_copies}
use Rattle.region_session.proofs.patch.fetch_tile.Goals as goal

pub returns-clause-fetched : goal.returns-clause-fetched
returns-clause-fetched g c =
    let P : Plane = g.B.Base.plane c.args.base.now in
    let L : Lent = record { rect = c.args.rect; planes = c.args.planes; samples = c.args.samples.now } in
    let moved = c.focus.new.self in
    let out = c.fetch.new.out in
    slice_copies P L moved out c.args.cell _
    (tile_copies P c.new-tile.result moved out L c.args.cell c.new-tile.ensures.lent c.focus.ensures.loan
    c.focus.ensures.rect c.fetch.ensures.loan (sym c.requires.planes) c.fetch.ensures.samples)
    (c.focus.ensures.loan ∙ c.new-tile.ensures.lent) c.fetch.ensures.loan (search rules)
