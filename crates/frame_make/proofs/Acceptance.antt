-- Each made frame is accepted, and decoded to its samples.
use Rattle.std.proofs.Common.{◌≡◌, ℕ, ◌+◌, ◌*◌, ◌^◌, ◌<◌, ◌≤◌, nat_eq, true, List, ◌++◌, length, Result, Ok, Err, IfOk}
use Rattle.std.proofs.Common.{Vec, Global, None, refl, sym, ap, ◌∙◌, subst, arith}
use Rattle.std.specs.Prelude.{◌||◌}
use Rattle.std.specs.List.{flat_map, range_with_len}
use Rattle.std.proofs.lemmas.List.Elements.{All-weaker}
use Rattle.std.proofs.Math.Nat.{mul-le-mul_left}
use Rattle.byteorder.specs.Endian.{little_bytes}
use Rattle.tiff_dirs.specs.declared.Order.TheVariants.{Little}
use Rattle.strip_unpack.specs.Samples.{Spells, SpellsRows, needed_bytes, row_bytes, sample_bits}
use Rattle.ljpeg_predict.specs.Decoded.{decoded}
use Rattle.ljpeg_predict.proofs.DecodedLemmas.{answer_is_decoded}
use Rattle.ljpeg_predict.proofs.LawLemmas.{law}
use Rattle.dng_tags.specs.Frame.{frame_of}
use Rattle.dng_tags.specs.Raw.{coding_of, raw, samples_in, segment_bytes, undecoded}
use Rattle.dng_tags.specs.declared.record.Coding.TheVariants.{LosslessJpeg, Packed}
use Rattle.frame_make.specs.Accepted.{AreSides, made_frame, made_plane, one_strip, one_strip_frame}
use Rattle.frame_make.specs.Made.{compression_of, depth_of, made_bytes, made_row, made_samples, made_strip, packed_row}
use Rattle.frame_make.specs.Made.{stream_of}
use Rattle.frame_make.specs.declared.Make.{Make}
use Rattle.frame_make.specs.declared.Make.TheVariants.{Lossless, Packed12, Plain16}
use Rattle.frame_make.proofs.Groups.{accepted}
use Rattle.frame_make.proofs.Heads.{file_is, before_strip, has_entries, length-before}
use Rattle.frame_make.proofs.Planes.{flat_twice, none_refused, packed_long, packed_spell, plane_is, rows_spelled}
use Rattle.frame_make.proofs.Planes.{strip_bytes, unpacked_so, pairs_long, pairs_spell}
use Rattle.frame_make.proofs.Rows.{length-made_samples, length-rows, small_samples}
use Rattle.frame_make.proofs.Sizes.{packed_short, stream_short, pairs_short}
use Rattle.frame_make.proofs.Streams.{stream_is}

-- ---- how long

strip_short : (number w h : ℕ) (kind : Make) → AreSides w h → length (made_strip number w h kind) ≤ 268000000
unfolding made_strip
strip_short number w h Plain16 sides = omega (arith, pairs_short number w h sides)
strip_short number w h Packed12 sides = omega (arith, packed_short number w h sides)
strip_short number w h Lossless sides =
    stream_short (made_samples number w h) w h (omega (arith, length-made_samples number w h, sides.area))

-- the file is the directory and the strip
made_is : (number w h : ℕ) (kind : Make)
    → made_bytes number w h kind ≡ before_strip w h (depth_of kind) (compression_of kind)
    (length (made_strip number w h kind)) ++ made_strip number w h kind
unfolding made_bytes
made_is number w h kind =
    file_is w h (depth_of kind) (compression_of kind) (length (made_strip number w h kind)) (made_strip number w h kind)

length-made : (number w h : ℕ) (kind : Make)
    → length (made_bytes number w h kind) ≡ 146 + length (made_strip number w h kind)
length-made number w h kind =
    let strip = made_strip number w h kind in
    ap length (made_is number w h kind) ∙ length-before w h (depth_of kind) (compression_of kind) (length strip) strip

pub short_enough : (number w h : ℕ) (kind : Make) → AreSides w h → length (made_bytes number w h kind) ≤ 2 ^ 28
short_enough number w h kind sides = omega (arith, length-made number w h kind, strip_short number w h kind sides)

-- ---- the record

one_told : (number w h : ℕ) (kind : Make) → AreSides w h → compression_of kind < 65536
    → (nat_eq (compression_of kind) 1 || nat_eq (compression_of kind) 7) ≡ true → 8 ≤ depth_of kind → depth_of kind ≤ 16
    → frame_of (made_bytes number w h kind)
    ≡ Ok (one_strip_frame w h (depth_of kind) (nat_eq (compression_of kind) 7)
    (length (made_strip number w h kind)))
one_told number w h kind sides small known low high =
    let strip = made_strip number w h kind in
    let count = length strip in
    let short = strip_short number w h kind sides in
    let entries = has_entries w h (depth_of kind) (compression_of kind) count strip in
    let size = length-before w h (depth_of kind) (compression_of kind) count strip in
    ap frame_of (made_is number w h kind)
    ∙ accepted entries sides small known low high (omega arith) (omega arith)

pub frame_told : (number w h : ℕ) (kind : Make) → AreSides w h
    → frame_of (made_bytes number w h kind) ≡ Ok (made_frame number w h kind)
frame_told number w h Plain16 sides = one_told number w h Plain16 sides (omega arith) refl (omega arith) (omega arith)
frame_told number w h Packed12 sides = one_told number w h Packed12 sides (omega arith) refl (omega arith) (omega arith)
frame_told number w h Lossless sides = one_told number w h Lossless sides (omega arith) refl (omega arith) (omega arith)

-- ---- the samples

the_strip : (number w h : ℕ) (kind : Make)
    → segment_bytes (made_bytes number w h kind) (one_strip w h (length (made_strip number w h kind)))
    ≡ made_strip number w h kind
the_strip number w h kind =
    let strip = made_strip number w h kind in
    let segment = one_strip w h (length strip) in
    ap (λ bytes. segment_bytes bytes segment) (made_is number w h kind)
    ∙ strip_bytes (before_strip w h (depth_of kind) (compression_of kind) (length strip)) strip w h refl

-- a strip whose rows spell the rows of samples
rows_read : (depth number w h : ℕ) (bytes strip : List ℕ) (row : ℕ → List ℕ) → depth ≤ 16
    → strip ≡ flat_map row (range_with_len 0 h) → ((r : ℕ) → length (row r) ≡ row_bytes depth w)
    → ((r : ℕ) → Spells (sample_bits Little depth) depth (made_row number w r) (row r))
    → segment_bytes bytes (one_strip w h (length strip)) ≡ strip
    → samples_in bytes (Packed Little depth) (one_strip w h (length strip)) ≡ Ok (made_samples number w h)
rows_read depth number w h bytes strip row most is long spelled there =
    let size : length strip ≡ needed_bytes depth h w = ap length is ∙ length-rows row (row_bytes depth w) 0 h long in
    let all : SpellsRows Little depth h w (made_samples number w h) strip =
    subst (SpellsRows Little depth h w (made_samples number w h)) (sym is)
    (rows_spelled depth number w h row long spelled) in
    unpacked_so depth w h bytes strip (made_samples number w h) most there size all

pairs_in_rows : (number w h : ℕ)
    → made_strip number w h Plain16 ≡ flat_map (λ r. flat_map (little_bytes 2) (made_row number w r))
    (range_with_len 0 h)
unfolding made_strip made_samples
pairs_in_rows number w h = flat_twice (little_bytes 2) (made_row number w) (range_with_len 0 h)

packed_in_rows : (number w h : ℕ)
    → made_strip number w h Packed12 ≡ flat_map (λ r. packed_row (made_row number w r)) (range_with_len 0 h)
unfolding made_strip
packed_in_rows number w h = refl

is_stream : (number w h : ℕ) → made_strip number w h Lossless ≡ stream_of w h (made_samples number w h)
unfolding made_strip
is_stream number w h = refl

stream_decoded : (number w h : ℕ) → AreSides w h
    → decoded (made_strip number w h Lossless) (h * w) ≡ Ok (made_samples number w h)
stream_decoded number w h sides =
    let samples = made_samples number w h in
    let size = length-made_samples number w h in
    let col : 1 ≤ w = omega (arith, sides.some_cols) in
    let more : h * 1 ≤ h * w = mul-le-mul_left h col in
    let some : 0 < length samples = omega (arith, size, more, sides.some_rows) in
    let small = All-weaker (λ x. x < 4096) (λ x. x < 2 ^ 16) (λ x below. omega arith) samples
    (small_samples number w h) in
    let told = law samples (stream_of w h samples) h w 12 1 some size (omega (arith, sides.rows))
    (omega (arith, sides.cols)) (omega arith) (omega arith) small (stream_is samples w h) in
    ap (λ bytes. decoded bytes (h * w)) (is_stream number w h)
    ∙ ap (decoded (stream_of w h samples)) (sym size)
    ∙ answer_is_decoded (stream_of w h samples) (length samples) (Ok tt) samples some told

stream_read : (number w h : ℕ) → AreSides w h
    → samples_in (made_bytes number w h Lossless) LosslessJpeg (one_strip w h (length (made_strip number w h Lossless)))
    ≡ Ok (made_samples number w h)
unfolding samples_in
stream_read number w h sides = rw (the_strip number w h Lossless, stream_decoded number w h sides) refl

pub samples_read : (number w h : ℕ) (kind : Make) → AreSides w h
    → samples_in (made_bytes number w h kind) (coding_of (made_frame number w h kind))
    (one_strip w h (length (made_strip number w h kind))) ≡ Ok (made_samples number w h)
samples_read number w h Plain16 sides =
    rows_read 16 number w h (made_bytes number w h Plain16) (made_strip number w h Plain16)
    (λ r. flat_map (little_bytes 2) (made_row number w r)) (omega arith) (pairs_in_rows number w h)
    (pairs_long number w) (pairs_spell number w) (the_strip number w h Plain16)
samples_read number w h Packed12 sides =
    rows_read 12 number w h (made_bytes number w h Packed12) (made_strip number w h Packed12)
    (λ r. packed_row (made_row number w r)) (omega arith) (packed_in_rows number w h) (packed_long number w)
    (packed_spell number w) (the_strip number w h Packed12)
samples_read number w h Lossless sides = stream_read number w h sides

pub strip_decoded : (number w h : ℕ) (kind : Make) → AreSides w h
    → undecoded (made_bytes number w h kind) (made_frame number w h kind) ≡ None
strip_decoded number w h kind sides =
    none_refused (made_bytes number w h kind) (made_samples number w h) (coding_of (made_frame number w h kind))
    (one_strip w h (length (made_strip number w h kind))) (samples_read number w h kind sides)

pub raw_plane : (number w h : ℕ) (kind : Make) → AreSides w h
    → raw (made_bytes number w h kind) (made_frame number w h kind) ≡ made_plane number w h
raw_plane number w h kind sides =
    plane_is (made_bytes number w h kind) (coding_of (made_frame number w h kind)) number w h
    (length (made_strip number w h kind)) (samples_read number w h kind sides)

-- the same of bytes that are made
pub short_where : {E : Type 0} (result : Result (Vec ℕ Global) E) (number w h : ℕ) (kind : Make) → AreSides w h
    → IfOk result (λ bytes. bytes.items ≡ made_bytes number w h kind)
    → IfOk result (λ bytes. length bytes.items ≤ 268435456)
short_where (Ok bytes) number w h kind sides made = rw made (short_enough number w h kind sides)
short_where (Err e) number w h kind sides made = tt
