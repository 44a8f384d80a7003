use Rattle.std.proofs.Common.{inl, inr, sym, ◌∙◌}
use Rattle.std.proofs.lemmas.Bool.{cases_Bool}
use Rattle.stage_deps.specs.Cells.{meets_one}
use Rattle.stage_deps.proofs.Coverage.{meets_around}
use Rattle.stage_deps.proofs.cells.meets_within.Goals as goal

-- a cell that doesn't meet what they lie in meets none of the rectangles
pub returns-else-meets : goal.returns-else-meets
returns-else-meets c =
    elim (cases_Bool (meets_one c.args.rects.now c.args.cell.now)) [
      | inl met ↦
          let around = meets_around c.args.rects.now c.args.cell.now c.args.around.now c.requires met in
          let no = c.if-meets.false in
          let is = c.meets.ensures in
          absurd (cc)
      | inr not_met ↦ c.if-meets.false ∙ sym not_met
    ]
