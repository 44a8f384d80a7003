use Rattle.std.proofs.Common.{◌≡◌, ℕ, ◌-◌, ◌/◌, ◌<◌, ◌≤◌, ◌++◌, [], ◌∷◌, ◌⊎◌, List, Ok, Err, refl, sym, ◌∙◌, ap}
use Rattle.std.proofs.Common.{ap₂, subst, arith}
use Rattle.std.specs.Int.{div_ceil}
use Rattle.std.proofs.lemmas.Result.{err_from_is_err_and}
use Rattle.plane_view.specs.Plane.{Plane, crop}
use Rattle.plane_view.specs.declared.Rect.{Rect}
use Rattle.stage_core.specs.Planes.{IsPart}
use Rattle.stage_core.specs.Stages.{shape_of}
use Rattle.stage_chain.specs.Chains.{whole_of}
use Rattle.dev_stages.specs.Members.{apply_of}
use Rattle.dev_stages.specs.declared.stage.DevStage.{DevStage}
use Rattle.image_out.specs.Image.{pixels_of}
use Rattle.developer.specs.Answered.{AreMade, IsRefused, MadeUpTo}
use Rattle.developer.specs.inner.Developed.{Develops}
use Rattle.developer.specs.inner.Pieces.{InPieces}
use Rattle.developer.specs.Sessions.{bands_of}
use Rattle.developer.specs.inner.Writes.{Writes, by_write}
use Rattle.developer.specs.declared.writing.Cause.TheVariants.{Memory}
use Rattle.developer.proofs.Bands.{InBands, band_within, bands_end, bands_fit, bands_more, bands_none}
use Rattle.developer.proofs.Bands.{bands_stop}
use Rattle.developer.proofs.Bandwise.{all_made, band_is, band_left, band_made, bands_to, bands_to_first, first_below}
use Rattle.developer.proofs.Bandwise.{made_none, made_stay, row_at, row_at_end, row_at_first}
use Rattle.developer.proofs.Images.{rows_of}
use Rattle.developer.proofs.regions.write_bands.Goals as goal

pub loop-k-init : goal.loop-k-init
loop-k-init g c =
    let P : Plane = whole_of apply_of c.args.session.now.stages c.args.session.now.plane in
    let side : ℕ = c.side-side.result in
    let some : 0 < side = omega (arith, c.side-side.ensures.least) in (
      subst (λ (top : ℕ). InBands g.O.Sink.stands_for g.O.Sink.faults c.args.out.now c.args.out.now c.args.piece.now
          c.args.piece.now 0 c.args.format P c.args.rect top)
          (sym (row_at_first side c.args.rect some c.requires.within.some.rows))
          (bands_none g.O.Sink.stands_for g.O.Sink.faults c.args.out.now c.args.piece.now c.args.format P c.args.rect
          c.requires.develops.developed c.requires.within c.requires.heads),
      subst (λ (bands : List Rect). AreMade c.args.session.now c.args.session.now bands c.args.work.now c.args.work.now)
          (sym (bands_to_first side c.args.rect)) (made_none c.args.session.now c.args.work.now),
      refl,
    )

pub write_band-requires-clause-develops : goal.write_band-requires-clause-develops
write_band-requires-clause-develops g c =
    let stays = made_stay c.args.session.now c.loop-k.session _ _ _ c.loop-k.invariant.1 in
    subst (λ (P : Plane). Develops P c.loop-k.session.stages) (sym stays.plane)
    (subst (λ (stages : List DevStage). Develops c.args.session.now.plane stages) (sym stays.stages)
    c.requires.develops)

pub write_band-requires-clause-within : goal.write_band-requires-clause-within
write_band-requires-clause-within g c =
    let P : Plane = whole_of apply_of c.args.session.now.stages c.args.session.now.plane in
    let side : ℕ = c.side-side.result in
    let some : 0 < side = omega (arith, c.side-side.ensures.least) in
    let rect = c.args.rect in
    let k : ℕ = c.loop-k.k in
    let low : rect.top / side ≤ k = omega arith in
    let high : k < div_ceil rect.bottom side = omega (arith, c.div_ceil-k-end.ensures) in
    let band = c.band_at-band.result in
    let is = band_is side rect k band some c.requires.within.some.rows low high c.band_at-band.ensures in
    let made = c.loop-k.invariant.1 in
    let stays = made_stay c.args.session.now c.loop-k.session _ _ _ made in
    let same : whole_of apply_of c.loop-k.session.stages c.loop-k.session.plane ≡ P =
    ap₂ (whole_of apply_of) stays.stages stays.plane in
    subst (λ (Q : Plane). IsPart band (shape_of Q)) (sym same)
    (band_within g.O.Sink.stands_for g.O.Sink.faults c.args.out.now c.args.piece.now c.args.format P rect
    c.requires.develops.developed c.requires.within
    c.loop-k.out c.loop-k.piece c.loop-k.written (row_at side rect k) c.loop-k.invariant.0 band is.left is.right is.top
    is.order is.low)

pub write_band-requires-clause-few : goal.write_band-requires-clause-few
write_band-requires-clause-few g c =
    let P : Plane = whole_of apply_of c.args.session.now.stages c.args.session.now.plane in
    let side : ℕ = c.side-side.result in
    let some : 0 < side = omega (arith, c.side-side.ensures.least) in
    let rect = c.args.rect in
    let k : ℕ = c.loop-k.k in
    let low : rect.top / side ≤ k = omega arith in
    let high : k < div_ceil rect.bottom side = omega (arith, c.div_ceil-k-end.ensures) in
    let band = c.band_at-band.result in
    let is = band_is side rect k band some c.requires.within.some.rows low high c.band_at-band.ensures in
    let made = c.loop-k.invariant.1 in
    let stays = made_stay c.args.session.now c.loop-k.session _ _ _ made in
    let same : whole_of apply_of c.loop-k.session.stages c.loop-k.session.plane ≡ P =
    ap₂ (whole_of apply_of) stays.stages stays.plane in
    bands_fit g.O.Sink.stands_for g.O.Sink.faults c.args.out.now c.args.piece.now c.args.format P rect
    c.requires.develops.developed c.requires.within
    c.loop-k.out c.loop-k.piece c.loop-k.written (row_at side rect k) c.loop-k.invariant.0 band is.left is.right is.top
    is.order is.low c.requires.heads

pub returns-in_err-written-clause-writes : goal.returns-in_err-written-clause-writes
returns-in_err-written-clause-writes g c =
    let p = err_from_is_err_and c.from_residual.result c.from_residual.ensures.1 in
    let P : Plane = whole_of apply_of c.args.session.now.stages c.args.session.now.plane in
    let side : ℕ = c.side-side.result in
    let some : 0 < side = omega (arith, c.side-side.ensures.least) in
    let rect = c.args.rect in
    let k : ℕ = c.loop-k.k in
    let low : rect.top / side ≤ k = omega arith in
    let high : k < div_ceil rect.bottom side = omega (arith, c.div_ceil-k-end.ensures) in
    let band = c.band_at-band.result in
    let is = band_is side rect k band some c.requires.within.some.rows low high c.band_at-band.ensures in
    let made = c.loop-k.invariant.1 in
    let stays = made_stay c.args.session.now c.loop-k.session _ _ _ made in
    let same : whole_of apply_of c.loop-k.session.stages c.loop-k.session.plane ≡ P =
    ap₂ (whole_of apply_of) stays.stages stays.plane in
    let heads : List ℕ = c.args.piece.now in
    let so-far = c.loop-k.invariant.0 in
    let all : List ℕ = heads ++ rows_of c.args.format P rect (row_at side rect k - rect.top) in
    let stop = c.in_err-written.field-0.0 in
    rw (p.1, p.2)
    (bands_stop g.O.Sink.stands_for g.O.Sink.faults c.args.out.now heads c.args.format P rect
    c.requires.develops.developed c.requires.within
    c.loop-k.out c.loop-k.piece c.loop-k.written (row_at side rect k) so-far band is.left is.right is.top is.order
    is.low
    c.write_band.new.out stop
    (subst (λ (Q : Plane). Writes {T = ℕ} g.O.Sink.stands_for g.O.Sink.faults c.args.out.now c.write_band.new.out (all
    ++ pixels_of c.args.format (crop Q band).samples) (λ n. n) (Err stop)) same
    (c.in_err-written.ensures.stops c.args.out.now all so-far.pieces)))

pub returns-in_err-written-clause-left : goal.returns-in_err-written-clause-left
returns-in_err-written-clause-left g c =
    let p = err_from_is_err_and c.from_residual.result c.from_residual.ensures.1 in
    let P : Plane = whole_of apply_of c.args.session.now.stages c.args.session.now.plane in
    let side : ℕ = c.side-side.result in
    let some : 0 < side = omega (arith, c.side-side.ensures.least) in
    let rect = c.args.rect in
    let k : ℕ = c.loop-k.k in
    let low : rect.top / side ≤ k = omega arith in
    let high : k < div_ceil rect.bottom side = omega (arith, c.div_ceil-k-end.ensures) in
    let band = c.band_at-band.result in
    let is = band_is side rect k band some c.requires.within.some.rows low high c.band_at-band.ensures in
    let made = c.loop-k.invariant.1 in
    let stays = made_stay c.args.session.now c.loop-k.session _ _ _ made in
    let same : whole_of apply_of c.loop-k.session.stages c.loop-k.session.plane ≡ P =
    ap₂ (whole_of apply_of) stays.stages stays.plane in
    let stop = c.in_err-written.field-0.0 in
    let left = subst (λ (r : Rect). AreMade c.loop-k.session c.write_band.new.session (r ∷ []) c.loop-k.work
    c.write_band.new.work ⊎ ((stop.cause ≡ Memory) × IsRefused c.loop-k.session c.write_band.new.session))
    c.band_at-band.ensures c.in_err-written.ensures.left in
    rw (p.1, p.2)
    (subst (λ (s : ℕ). MadeUpTo stop.cause c.args.session.now c.write_band.new.session (bands_of s rect) c.args.work.now
    c.write_band.new.work) c.side-side.ensures.side
    (band_left side rect c.args.session.now c.loop-k.session c.args.work.now c.loop-k.work k low high made
    c.write_band.new.session c.write_band.new.work stop.cause left))

pub loop-k-preserved : goal.loop-k-preserved
loop-k-preserved g c =
    let P : Plane = whole_of apply_of c.args.session.now.stages c.args.session.now.plane in
    let side : ℕ = c.side-side.result in
    let some : 0 < side = omega (arith, c.side-side.ensures.least) in
    let rect = c.args.rect in
    let k : ℕ = c.loop-k.k in
    let low : rect.top / side ≤ k = omega arith in
    let high : k < div_ceil rect.bottom side = omega (arith, c.div_ceil-k-end.ensures) in
    let band = c.band_at-band.result in
    let is = band_is side rect k band some c.requires.within.some.rows low high c.band_at-band.ensures in
    let made = c.loop-k.invariant.1 in
    let stays = made_stay c.args.session.now c.loop-k.session _ _ _ made in
    let same : whole_of apply_of c.loop-k.session.stages c.loop-k.session.plane ≡ P =
    ap₂ (whole_of apply_of) stays.stages stays.plane in
    let heads : List ℕ = c.args.piece.now in
    let so-far = c.loop-k.invariant.0 in
    let all : List ℕ = heads ++ rows_of c.args.format P rect (row_at side rect k - rect.top) in
    let next = subst (λ (r : Rect). AreMade c.loop-k.session c.write_band.new.session (r ∷ []) c.loop-k.work
    c.write_band.new.work) c.band_at-band.ensures c.in_ok-written.ensures.made in (
      subst (λ (top : ℕ). InBands g.O.Sink.stands_for g.O.Sink.faults c.args.out.now c.write_band.new.out heads
          c.write_band.new.piece c.in_ok-written.written c.args.format P rect top) is.bottom
          (bands_more g.O.Sink.stands_for g.O.Sink.faults c.args.out.now heads c.args.format P rect
          c.requires.develops.developed c.requires.within
          c.loop-k.out c.loop-k.piece c.loop-k.written (row_at side rect k) so-far band is.left is.right is.top is.order
          is.low
          c.write_band.new.out c.write_band.new.piece c.in_ok-written.written
          (subst (λ (Q : Plane). InPieces g.O.Sink.stands_for g.O.Sink.faults c.args.out.now c.write_band.new.out (all
          ++ pixels_of c.args.format (crop Q band).samples) c.write_band.new.piece c.in_ok-written.written) same
          (c.in_ok-written.ensures.pieces c.args.out.now all so-far.pieces))
          c.in_ok-written.ensures.room c.in_ok-written.ensures.number),
      band_made side rect c.args.session.now c.loop-k.session c.args.work.now c.loop-k.work k low high made
          c.write_band.new.session c.write_band.new.work next,
      c.write_band.ensures.samples ∙ c.loop-k.invariant.2,
    )

pub returns-in_err-write_piece-clause-writes : goal.returns-in_err-write_piece-clause-writes
returns-in_err-write_piece-clause-writes g c =
    let p = err_from_is_err_and c.from_residual-in_err-write_piece.result c.from_residual-in_err-write_piece.ensures.1
    in
    let P : Plane = whole_of apply_of c.args.session.now.stages c.args.session.now.plane in
    let side : ℕ = c.side-side.result in
    let some : 0 < side = omega (arith, c.side-side.ensures.least) in
    let rect = c.args.rect in
    let below = first_below side rect some c.requires.within.some.rows in
    let end : c.loop-k.k ≡ div_ceil rect.bottom side = omega (arith, below, c.div_ceil-k-end.ensures) in
    let so-far = c.loop-k.invariant.0 in
    let last : row_at side rect c.loop-k.k ≡ rect.bottom = ap (row_at side rect) end
    ∙ row_at_end side rect some c.requires.within.some.rows in
    rw (p.1, p.2)
    (bands_end g.O.Sink.stands_for g.O.Sink.faults c.args.out.now c.args.piece.now c.args.format P rect
    c.requires.develops.developed c.requires.within
    c.loop-k.out c.loop-k.piece c.loop-k.written (row_at side rect c.loop-k.k) so-far
    c.write_piece.new.out (Err (by_write c.in_err-write_piece.field-0.0)) (omega (arith, last))
    (c.in_err-write_piece.ensures.writes c.args.out.now so-far.pieces.sent so-far.pieces.writes))

pub returns-in_err-write_piece-clause-left : goal.returns-in_err-write_piece-clause-left
returns-in_err-write_piece-clause-left g c =
    let p = err_from_is_err_and c.from_residual-in_err-write_piece.result c.from_residual-in_err-write_piece.ensures.1
    in
    let side : ℕ = c.side-side.result in
    let some : 0 < side = omega (arith, c.side-side.ensures.least) in
    let rect = c.args.rect in
    let below = first_below side rect some c.requires.within.some.rows in
    let end : c.loop-k.k ≡ div_ceil rect.bottom side = omega (arith, below, c.div_ceil-k-end.ensures) in
    let cause = (by_write c.in_err-write_piece.field-0.0).cause in
    rw (p.1, p.2)
    (all_made cause c.args.session.now c.loop-k.session (bands_of c.args.session.now.side rect) c.args.work.now
    c.loop-k.work
    (subst (λ (s : ℕ). AreMade c.args.session.now c.loop-k.session (bands_of s rect) c.args.work.now c.loop-k.work)
    c.side-side.ensures.side
    (subst (λ (n : ℕ). AreMade c.args.session.now c.loop-k.session (bands_to side rect n) c.args.work.now c.loop-k.work)
    end c.loop-k.invariant.1)))

pub returns-clause-writes : goal.returns-clause-writes
returns-clause-writes g c =
    let P : Plane = whole_of apply_of c.args.session.now.stages c.args.session.now.plane in
    let side : ℕ = c.side-side.result in
    let some : 0 < side = omega (arith, c.side-side.ensures.least) in
    let rect = c.args.rect in
    let below = first_below side rect some c.requires.within.some.rows in
    let end : c.loop-k.k ≡ div_ceil rect.bottom side = omega (arith, below, c.div_ceil-k-end.ensures) in
    let so-far = c.loop-k.invariant.0 in
    let last : row_at side rect c.loop-k.k ≡ rect.bottom = ap (row_at side rect) end
    ∙ row_at_end side rect some c.requires.within.some.rows in
    bands_end g.O.Sink.stands_for g.O.Sink.faults c.args.out.now c.args.piece.now c.args.format P rect
    c.requires.develops.developed c.requires.within
    c.loop-k.out c.loop-k.piece c.loop-k.written (row_at side rect c.loop-k.k) so-far
    c.write_piece.new.out (Ok c.in_ok-write_piece.field-0) (omega (arith, last))
    (c.in_ok-write_piece.ensures.writes c.args.out.now so-far.pieces.sent so-far.pieces.writes)

pub returns-clause-made : goal.returns-clause-made
returns-clause-made g c =
    let side : ℕ = c.side-side.result in
    let some : 0 < side = omega (arith, c.side-side.ensures.least) in
    let rect = c.args.rect in
    let below = first_below side rect some c.requires.within.some.rows in
    let end : c.loop-k.k ≡ div_ceil rect.bottom side = omega (arith, below, c.div_ceil-k-end.ensures) in
    subst (λ (s : ℕ). AreMade c.args.session.now c.loop-k.session (bands_of s rect) c.args.work.now c.loop-k.work)
    c.side-side.ensures.side
    (subst (λ (n : ℕ). AreMade c.args.session.now c.loop-k.session (bands_to side rect n) c.args.work.now c.loop-k.work)
    end c.loop-k.invariant.1)
