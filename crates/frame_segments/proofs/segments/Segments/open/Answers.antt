use Rattle.std.proofs.Common.{◌≡◌, ◌-◌, List, ℕ, Some, ap, length, slice_get, sym, subst, arith}
use Rattle.std.proofs.lemmas.List.{take_at}
use Rattle.dng_tags.specs.declared.record.Segment.{Segment}
use Rattle.frame_segments.specs.inner.Buffers.{AreOpened}
use Rattle.frame_segments.proofs.Opening.{are_opened, some_coded}
use Rattle.frame_segments.proofs.segments.Segments.open.Goals as goal

pub invariant_of-result : goal.invariant_of-result
invariant_of-result c =
    let bytes = c.args.bytes.now in
    let frame = c.args.frame.now in
    let items = c.in-Ok-from_slice.segments in
    let lent = c.as_slice-segments.result.now in
    let buffer = c.decode_all.new.buffer in
    let copied : items ≡ lent = c.in-Ok-from_slice.ensures in
    let same : items ≡ frame.segments = subst (λ (xs : List Segment). items ≡ xs) c.as_slice-segments.ensures copied in
    let made = ap length c.deref_mut.ensures.value in
    let long : length buffer ≡ c.in-Ok.buffer.len = omega arith in
    let size = ap length copied in
    let count = ap length same in
    let some = c.requires.frame.parts.some in
    let P : List ℕ → Type 0 = λ xs. AreOpened bytes c.coding.result frame.shape items xs (c.len.result - 1) in
    let of_lent : (k : ℕ) (segment : Segment) → slice_get items k ≡ Some segment → slice_get lent k ≡ Some segment =
    λ k segment at. subst (λ (xs : List Segment). slice_get xs k ≡ Some segment) copied at in
    subst P (sym (take_at buffer _ c.in-Ok.buffer.len long))
    (are_opened bytes frame c.coding.result items buffer (c.len.result - 1) c.requires.frame c.coding.ensures same
    (λ k segment at. let most = c.largest_count.ensures k segment (of_lent k segment at) in
    omega (arith, most, c.in-Ok.ensures.len))
    (λ k segment at. c.in_ok-decode_all.ensures.decodable k segment (of_lent k segment at))
    (λ k segment last at. c.in_ok-decode_all.ensures.last k segment (omega (arith, size)) (of_lent k segment at))
    (omega (arith, c.len.ensures, some, count)))

pub decode_all-requires-clause-fit : goal.decode_all-requires-clause-fit
decode_all-requires-clause-fit c = λ k segment at.
    let frame = c.args.frame.now in
    let is = c.requires.frame in
    let own : slice_get frame.segments k ≡ Some segment = subst (λ (xs : List Segment). slice_get xs k ≡ Some segment)
    c.as_slice-segments.ensures at in
    let part = is.parts.part k segment own in
    let most = c.largest_count.ensures k segment at in
    record {
      inside = is.inside k segment own;
      room = omega (arith, most, c.deref_mut.ensures.len, c.in-Ok.ensures.len);
      some = some_coded frame.shape segment part;
      few = part.coded;
    }
