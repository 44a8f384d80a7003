use Rattle.std.proofs.Common.{◌<◌, ◌∙◌, ℕ, List, length, slice_index, sym, subst, rules}
use Rattle.std.proofs.lemmas.List.Elements.{All-get_or}
use Rattle.frame_make.specs.Made.{made_row, made_strip, packed_row}
use Rattle.frame_make.proofs.Rows.{one_row_more, small_row}
use Rattle.frame_make.proofs.strips.packed_strip.Goals as goal

pub loop-row-init : goal.loop-row-init
unfolding made_strip
loop-row-init c = search rules

pub append_packed-requires : goal.append_packed-requires
append_packed-requires c =
    let row = made_row c.args.number c.args.w c.loop-row.row in
    let P : List ℕ → Type 0 = λ xs. (k : ℕ) → k < length xs → slice_index xs k < 4096 in
    let is = c.deref.ensures.value ∙ c.in_ok-made_row.ensures in
    subst P (sym is) (λ k h. All-get_or (λ x. x < 4096) row k 0 h (small_row c.args.number c.args.w c.loop-row.row))

pub loop-row-preserved : goal.loop-row-preserved
unfolding made_strip
loop-row-preserved c =
    let more = one_row_more (λ r. packed_row (made_row c.args.number c.args.w r)) c.loop-row.row in
    let pushed = c.in_ok-append_packed.ensures in
    let row = c.in_ok-made_row.ensures in
    let value = c.deref.ensures.value in
    cc
