use Rattle.std.proofs.Common.{◌≡◌, ◌+◌, ◌-◌, ◌*◌, ◌/◌, ◌^◌, ℕ, List, length, take, ap, refl, subst, arith}
use Rattle.std.proofs.lemmas.List.{take_all}
use Rattle.binary_digits.specs.Digits.{bits_of}
use Rattle.strip_unpack.specs.Samples.{Spells}
use Rattle.strip_unpack.proofs.Unpacking.{has_place, is_whole, joined, masked, next_byte, next_sample, nothing_yet}
use Rattle.strip_unpack.proofs.Unpacking.{sample_fits, spells_all}
use Rattle.strip_unpack.proofs.packed.unpack_row.Goals as goal
use Rattle.strip_unpack.proofs.packed.unpack_row.Goals.{then-depth-count, else-depth-count}

pub loop-byte-init : goal.loop-byte-init
loop-byte-init c = record { read = omega arith; few = omega arith; unpacked = nothing_yet c.args.depth }

pub overflow_cast-out : goal.overflow_cast-out
overflow_cast-out c =
    let l = c.loop-byte in
    let byte = c.type_inv.bytes l.byte-index in
    let register = joined l.count l.pending c.from.result (omega arith) l.invariant.unpacked.below (omega arith) in
    let u = next_byte c.args.depth l.count l.pending (l.pending * 256 + c.from.result) l.byte-index
    (l.byte-index + 1) _ c.args.bytes.now (ap (λ b. l.pending * 256 + b) c.from.ensures) refl (omega arith)
    (omega arith) l.invariant.unpacked in
    let fits = sample_fits c.args.depth (l.count + 8) (l.count + 8 - c.args.depth) (l.pending * 256 + c.from.result)
    (omega arith) (omega arith) u.below in
    rw register (omega arith)

pub loop-byte-preserved : goal.loop-byte-preserved
loop-byte-preserved c =
    let l = c.loop-byte in
    let byte = c.type_inv.bytes l.byte-index in
    let register = joined l.count l.pending c.from.result (omega arith) l.invariant.unpacked.below (omega arith) in
    let u = next_byte c.args.depth l.count l.pending (l.pending * 256 + c.from.result) l.byte-index
    (l.byte-index + 1) _ c.args.bytes.now (ap (λ b. l.pending * 256 + b) c.from.ensures) refl (omega arith)
    (omega arith) l.invariant.unpacked in
    elim c.if-depth-count.branch [
      | then-depth-count w ↦
          let rest = l.count + 8 - c.args.depth in
          let pending = l.pending * 256 + c.from.result in
          let place = has_place c.args.depth l.i (length c.args.out.now) (8 * (l.byte-index + 1)) (omega arith)
          (omega arith) (omega arith) in
          let mask = masked 32 rest pending (omega arith) in
          let v = next_sample c.args.depth (l.count + 8) rest pending l.i (l.i + 1) (pending / 2 ^ rest) l.out
          (take (l.byte-index + 1) c.args.bytes.now) refl (omega arith) (omega arith) refl u in
          rw (w.i-is, w.count-is, w.out-is, w.pending-is, register, mask)
          (record { read = omega arith; few = omega arith; unpacked = v })
      | else-depth-count w ↦ rw (w.i-is, w.count-is, w.out-is, w.pending-is, register)
          (record { read = omega arith; few = omega arith; unpacked = u })
    ]

pub returns : goal.returns
returns c =
    let l = c.loop-byte in
    let n = length c.args.out.now in
    let end : l.byte-index ≡ length c.args.bytes.now = omega arith in
    let whole = is_whole c.args.depth l.i l.count n (8 * l.byte-index) (omega arith) (omega arith) (omega arith)
    (omega arith) (omega arith) in
    let digits_out : l.i * c.args.depth ≡ n * c.args.depth = ap (λ k. k * c.args.depth) whole in
    let samples = take_all l.i l.out (omega arith) in
    let bytes = take_all l.byte-index c.args.bytes.now (omega arith) in
    let P : List ℕ → Type 0 = λ xs. Spells (bits_of c.args.depth) c.args.depth xs c.args.bytes.now in
    let Q : List ℕ → Type 0 = λ xs. Spells (bits_of c.args.depth) c.args.depth (take l.i l.out) xs in
    subst P samples (subst Q bytes (spells_all c.args.depth l.count l.pending _ _ (omega arith) l.invariant.unpacked))
