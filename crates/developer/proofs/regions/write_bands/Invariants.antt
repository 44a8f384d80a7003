use Rattle.std.proofs.Common.{◌≡◌, length}
use Rattle.stage_chain.specs.Chains.{whole_of}
use Rattle.dev_stages.specs.Members.{apply_of}
use Rattle.developer.specs.Answered.{AreMade}
use Rattle.developer.proofs.Bands.{InBands}
use Rattle.developer.proofs.Bandwise.{bands_to, row_at}
use Rattle.developer.proofs.regions.write_bands.Given as goal

-- what was written, and what the piece holds, are the heads and the rows above a row of cells, whose bands were made
abbrev pub invariant-loop-k : goal.invariant-loop-k
invariant-loop-k g l =
    InBands g.O.Sink.stands_for g.O.Sink.faults l.fn.out l.out l.fn.piece l.piece l.written l.format
    (whole_of apply_of l.fn.session.stages l.fn.session.plane) l.rect (row_at l.side l.rect l.k)
    × AreMade l.fn.session l.session (bands_to l.side l.rect l.k) l.fn.work l.work
    × (length l.samples ≡ length l.fn.samples)
