use Rattle.std.proofs.Common.{◌≡◌, ◌∙◌, sym, ap, subst, map, List, arith}
use Rattle.std.specs.List.{range_with_len}
use Rattle.dng_tags.specs.Facts.{AreParts}
use Rattle.dng_tags.specs.Layout.{segment_at, segment_count, segments_in}
use Rattle.dng_tags.specs.declared.record.Segment.{Segment}
use Rattle.dng_tags.proofs.LayoutLemmas.{layout_parts}
use Rattle.dng_tags.proofs.layout.Layout.segments.Goals as goal

pub returns-clause-parts : goal.returns-clause-parts
unfolding segments_in
returns-clause-parts c =
    let made : c.loop-k.k ≡ segment_count c.args.shape c.args.self.now.cut = omega arith in
    let same : c.from_vec.result ≡ segments_in c.args.shape c.args.self.now =
    c.from_vec.ensures ∙ (c.loop-k.invariant
    ∙ ap (λ n. map (segment_at c.args.shape c.args.self.now) (range_with_len 0 n)) made) in
    let P : List Segment → Type 0 = λ segments. AreParts c.args.shape segments in
    subst P (sym same) (layout_parts c.args.shape c.args.self.now c.requires.shape c.requires.checked)
