use Rattle.std.proofs.Common.{arith, sym, ◌∙◌}
use Rattle.std.proofs.lemmas.Bool.{eqb-true}
use Rattle.ljpeg_huffman.proofs.TableLemmas.{fault_empty, fault_many, fault_category, fault_overfull, fault_none}
use Rattle.ljpeg_huffman.proofs.TableLemmas.{code_words-padded, IsTable-padded, prefix_free_table, some_of}
use Rattle.ljpeg_huffman.proofs.table.CodeTable.read.Goals as goal

pub returns-then-is_empty-clause-fault : goal.returns-then-is_empty-clause-fault
returns-then-is_empty-clause-fault c =
    fault_empty c.args.counts.now c.args.values.now
    (sym c.requires ∙ eqb-true _ _ (sym c.is_empty.ensures ∙ c.if-is_empty.true))

pub returns-then-values-gt256-clause-fault : goal.returns-then-values-gt256-clause-fault
returns-then-values-gt256-clause-fault c = fault_many c.args.counts.now c.args.values.now (omega arith)

pub returns-in-Some-clause-fault : goal.returns-in-Some-clause-fault
returns-in-Some-clause-fault c =
    fault_category c.args.counts.now c.args.values.now c.in-Some.value
    (some_of _ _ c.requires c.is_empty.ensures c.if-is_empty.false) (omega arith)
    (sym c.first_unknown.ensures ∙ c.in-Some.is)

pub returns-then-space-gt65536-clause-fault : goal.returns-then-space-gt65536-clause-fault
returns-then-space-gt65536-clause-fault c =
    fault_overfull c.args.counts.now c.args.values.now (some_of _ _ c.requires c.is_empty.ensures c.if-is_empty.false)
    (omega arith) (sym c.first_unknown.ensures ∙ c.in_default.is) (omega arith)

pub invariant_of-result : goal.invariant_of-result
invariant_of-result c =
    let table = IsTable-padded c.args.counts.now c.args.values.now c.padded-values.result _ c.padded-values.ensures
    c.told-counts (omega arith) (sym c.first_unknown.ensures ∙ c.in_default.is) (omega arith) in
    (table, c.short_codes.ensures)

pub short_codes-requires : goal.short_codes-requires
short_codes-requires c =
    IsTable-padded c.args.counts.now c.args.values.now c.padded-values.result _ c.padded-values.ensures c.told-counts
    (omega arith) (sym c.first_unknown.ensures ∙ c.in_default.is) (omega arith)

pub returns-clause-table : goal.returns-clause-table
returns-clause-table c = code_words-padded c.args.counts.now c.args.values.now c.padded-values.result _
    c.padded-values.ensures (omega arith)

pub returns-clause-prefix_free : goal.returns-clause-prefix_free
returns-clause-prefix_free c = prefix_free_table c.args.counts.now c.padded-values.result c.told-counts (omega arith)

pub returns-clause-fault : goal.returns-clause-fault
returns-clause-fault c =
    fault_none c.args.counts.now c.args.values.now (some_of _ _ c.requires c.is_empty.ensures c.if-is_empty.false)
    (omega arith) (sym c.first_unknown.ensures ∙ c.in_default.is) (omega arith)
