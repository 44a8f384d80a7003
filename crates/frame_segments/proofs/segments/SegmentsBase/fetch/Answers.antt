use Rattle.std.proofs.Common.{◌≡◌, ◌∙◌, List, ℕ, ap, length, get_or, slice_get, take, Ok, Some, sym, subst, arith}
use Rattle.std.proofs.lemmas.List.{take_at}
use Rattle.plane_view.specs.Plane.{Plane}
use Rattle.plane_view.specs.Lent.{AgreesWith}
use Rattle.plane_view.specs.Tiles.{loan, tile_rect}
use Rattle.dng_tags.specs.Raw.{coded_count}
use Rattle.frame_segments.specs.inner.Buffers.{AreOpened, Fits, Holds}
use Rattle.frame_segments.specs.Opened.{OpenedSegments}
use Rattle.frame_segments.proofs.Opening.{fetched_agrees, found_cell, on_equal, plane_planes, reopened}
use Rattle.frame_segments.proofs.SegmentLemmas.{nothing}
use Rattle.frame_segments.proofs.segments.SegmentsBase.fetch.Goals as goal

pub bring-requires-clause-fits : goal.bring-requires-clause-fits
bring-requires-clause-fits g c =
    let s = c.self.inside in
    let found = found_cell s.segments c.as_slice.result.now c.args.self.now.cells c.args.k _ nothing
    (ap (λ (o : OpenedSegments). o.cells) c.self.view_is) c.as_slice.ensures c.requires.cell in
    let P : List ℕ → Type 0 = λ buffer. Fits s.coded.bytes.now buffer (get_or c.as_slice.result.now c.args.k nothing) in
    subst P (sym c.deref_mut.ensures.value) (c.self.invariant.fit c.args.k _ found.at)

pub bring-requires-clause-decodable : goal.bring-requires-clause-decodable
bring-requires-clause-decodable g c =
    let s = c.self.inside in
    let found = found_cell s.segments c.as_slice.result.now c.args.self.now.cells c.args.k _ nothing
    (ap (λ (o : OpenedSegments). o.cells) c.self.view_is) c.as_slice.ensures c.requires.cell in
    c.self.invariant.decodable c.args.k _ found.at

pub bring-requires-clause-held : goal.bring-requires-clause-held
bring-requires-clause-held g c =
    let s = c.self.inside in
    let found = found_cell s.segments c.as_slice.result.now c.args.self.now.cells c.args.k _ nothing
    (ap (λ (o : OpenedSegments). o.cells) c.self.view_is) c.as_slice.ensures c.requires.cell in
    on_equal s.held c.args.k (λ same.
    let P : List ℕ → Type 0 = λ buffer. Holds buffer s.coded.bytes.now s.coded.coding
    (get_or c.as_slice.result.now c.args.k nothing) in
    let Q : ℕ → Type 0 = λ k. slice_get s.segments k ≡ Some (get_or c.as_slice.result.now c.args.k nothing) in
    subst P (sym c.deref_mut.ensures.value) (c.self.invariant.holds _ (subst Q (sym same) found.at)))

pub copy_pixels-requires-clause-segment : goal.copy_pixels-requires-clause-segment
copy_pixels-requires-clause-segment g c =
    let s = c.self.inside in
    let found = found_cell s.segments c.as_slice.result.now c.args.self.now.cells c.args.k _ nothing
    (ap (λ (o : OpenedSegments). o.cells) c.self.view_is) c.as_slice.ensures c.requires.cell in
    c.self.invariant.coded c.args.k _ found.at

pub copy_pixels-requires-clause-room : goal.copy_pixels-requires-clause-room
copy_pixels-requires-clause-room g c =
    let s = c.self.inside in
    let found = found_cell s.segments c.as_slice.result.now c.args.self.now.cells c.args.k _ nothing
    (ap (λ (o : OpenedSegments). o.cells) c.self.view_is) c.as_slice.ensures c.requires.cell in
    let fits = c.self.invariant.fit c.args.k _ found.at in
    let read = ap length c.deref_mut.ensures.value in
    let kept : length c.bring.new.buffer ≡ s.buffer.len = omega arith in
    let now : c.deref.result.now ≡ c.bring.new.buffer = c.deref.ensures.value
    ∙ take_at c.bring.new.buffer _ s.buffer.len kept in
    rw now (omega (arith, fits.room))

pub copy_pixels-requires-clause-rect : goal.copy_pixels-requires-clause-rect
copy_pixels-requires-clause-rect g c =
    let s = c.self.inside in
    let found = found_cell s.segments c.as_slice.result.now c.args.self.now.cells c.args.k _ nothing
    (ap (λ (o : OpenedSegments). o.cells) c.self.view_is) c.as_slice.ensures c.requires.cell in
    sym found.rect_is

pub copy_pixels-requires-clause-planes : goal.copy_pixels-requires-clause-planes
copy_pixels-requires-clause-planes g c =
    let s = c.self.inside in
    c.requires.planes ∙ sym (ap (λ (o : OpenedSegments). o.plane.planes) c.self.view_is)
    ∙ plane_planes s.coded.bytes.now s.coded.coding s.shape s.segments

pub invariant_of-self : goal.invariant_of-self
invariant_of-self g c =
    let s = c.self.inside in
    let found = found_cell s.segments c.as_slice.result.now c.args.self.now.cells c.args.k _ nothing
    (ap (λ (o : OpenedSegments). o.cells) c.self.view_is) c.as_slice.ensures c.requires.cell in
    let read = ap length c.deref_mut.ensures.value in
    let kept : length c.bring.new.buffer ≡ s.buffer.len = omega arith in
    let same : length c.bring.new.buffer ≡ length s.buffer.items = omega arith in
    let P : List ℕ → Type 0 = λ buffer. AreOpened s.coded.bytes.now s.coded.coding s.shape s.segments buffer c.args.k in
    subst P (sym (take_at c.bring.new.buffer _ s.buffer.len kept))
    (reopened s.coded.bytes.now s.coded.coding s.shape s.segments s.buffer.items c.bring.new.buffer s.held c.args.k
    _ c.self.invariant same found.at c.bring.ensures)

pub returns-clause-samples : goal.returns-clause-samples
returns-clause-samples g c =
    let s = c.self.inside in
    let found = found_cell s.segments c.as_slice.result.now c.args.self.now.cells c.args.k _ nothing
    (ap (λ (o : OpenedSegments). o.cells) c.self.view_is) c.as_slice.ensures c.requires.cell in
    let read = ap length c.deref_mut.ensures.value in
    let kept : length c.bring.new.buffer ≡ s.buffer.len = omega arith in
    let now : c.deref.result.now ≡ c.bring.new.buffer = c.deref.ensures.value
    ∙ take_at c.bring.new.buffer _ s.buffer.len kept in
    let segment = get_or c.as_slice.result.now c.args.k nothing in
    let P : Plane → Type 0 = λ plane. AgreesWith plane (loan c.copy_pixels.new.out) (tile_rect c.args.out.now) in
    let one = c.requires.planes ∙ sym (ap (λ (o : OpenedSegments). o.plane.planes) c.self.view_is)
    ∙ plane_planes s.coded.bytes.now s.coded.coding s.shape s.segments in
    subst P (ap (λ (o : OpenedSegments). o.plane) c.self.view_is)
    (fetched_agrees s.coded.bytes.now s.coded.coding s.shape s.segments s.buffer.items
    (take (coded_count segment) c.deref.result.now) s.held c.args.k segment _ (loan c.copy_pixels.new.out)
    c.self.invariant found
    (c.bring.ensures ∙ ap (λ (xs : List ℕ). Ok (take (coded_count segment) xs)) (sym now))
    (c.copy_pixels.ensures.loan.planes ∙ one)
    c.copy_pixels.ensures.pixels)
