use Rattle.std.proofs.Common.{[], ◌∷◌, take, option_copied, arith, sym, ap, ◌∙◌}
use Rattle.ljpeg_predict.specs.Scans.{Scan, components}
use Rattle.ljpeg_predict.proofs.TableLemmas.{chosen_count, first_told, four_tables, is_told}
use Rattle.ljpeg_predict.proofs.scan.Scan.tables.Goals as goal

pub unwrap-first-requires : goal.unwrap-first-requires
unwrap-first-requires c =
    let inside = c.self.inside in
    is_told c.told_table.result _ c.told_table.ensures
    (first_told inside.tables inside.numbers inside.frame.components c.self.invariant.0.some
    (omega (arith, c.self.invariant.1)) c.self.invariant.2)

pub returns : goal.returns
returns c =
    let inside = c.self.inside in
    let first = sym c.told_table.ensures ∙ ap option_copied c.unwrap-first.ensures in
    let count = sym (ap components c.self.view_is) ∙ chosen_count inside.tables inside.numbers inside.frame.components
    (omega (arith, c.self.invariant.0.few, c.self.invariant.1)) in
    ap (λ n. take n (c.unwrap-first.result.now ∷ c.table_or.result.now ∷ c.table_or-2.result.now
    ∷ c.table_or-3.result.now ∷ [])) count
    ∙ four_tables inside.tables inside.numbers inside.frame.components _ _ _ _ c.self.invariant.1 c.self.invariant.2
    first c.table_or.ensures c.table_or-2.ensures c.table_or-3.ensures
    ∙ ap (λ (s : Scan). s.tables) c.self.view_is
