-- The samples that a made frame's strip is decoded to, and the plane of them.
use Rattle.std.proofs.Common.{◌≡◌, ℕ, ◌+◌, ◌-◌, ◌*◌, ◌/◌, ◌%◌, ◌^◌, ◌<◌, ◌≤◌, false, List, [], ◌∷◌, ◌++◌, All, length}
use Rattle.std.proofs.Common.{get_or, replicate, take, None, Ok, refl, sym, ap, ◌∙◌, subst, arith}
use Rattle.std.specs.Prelude.{nat_lt}
use Rattle.std.specs.List.{flat_map, range_with_len}
use Rattle.std.specs.Fork.{slice_chunk}
use Rattle.std.proofs.lemmas.Bool.{le-ltb}
use Rattle.std.proofs.lemmas.List.{append-nil, drop_at, length-replicate, take_all}
use Rattle.std.proofs.lemmas.List.Concat.{flat_map-append}
use Rattle.std.proofs.lemmas.List.Elements.{All-head, All-tail, All-weaker}
use Rattle.byteorder.specs.Endian.{little_bytes}
use Rattle.binary_digits.specs.Digits.{bits_of, byte_bits}
use Rattle.binary_digits.proofs.DigitLemmas.{byte_bits-append}
use Rattle.plane_view.specs.Plane.{Plane, samples_of}
use Rattle.plane_view.specs.Rectangles.{whole_rect}
use Rattle.plane_view.proofs.Pixels.{has_pixel-true}
use Rattle.plane_view.proofs.Samples.{same_samples}
use Rattle.tiff_dirs.specs.declared.Order.TheVariants.{Little}
use Rattle.strip_unpack.specs.Samples.{Spells, SpellsRows, needed_bytes, row_bytes, sample_bits, unpacked}
use Rattle.strip_unpack.proofs.FileOrder.{little_digits, own_digits}
use Rattle.strip_unpack.proofs.Formula.{formula_alone}
use Rattle.dng_tags.specs.declared.record.Coding.{Coding}
use Rattle.dng_tags.specs.declared.record.Coding.TheVariants.{Packed}
use Rattle.dng_tags.specs.declared.record.Segment.{Segment}
use Rattle.dng_tags.specs.Raw.{fault_from, raw_sample, samples_in, segment_bytes, segments_plane}
use Rattle.frame_make.specs.Accepted.{made_plane, one_strip}
use Rattle.frame_make.specs.Made.{made_row, made_sample, made_samples, packed_row}
use Rattle.frame_make.proofs.Packing.{length-digits}
use Rattle.frame_make.proofs.Rows.{length-made_row, length-made_samples, row_part_is, part_rows, sample_is, small_row}
use Rattle.frame_make.proofs.WholeBytes.{lacking, length-whole, whole_digits}

-- ---- packed rows

-- rows of bytes that spell the rows of samples
pub rows_spelled : (depth number w h : ℕ) (row : ℕ → List ℕ) → ((r : ℕ) → length (row r) ≡ row_bytes depth w)
    → ((r : ℕ) → Spells (sample_bits Little depth) depth (made_row number w r) (row r))
    → SpellsRows Little depth h w (made_samples number w h) (flat_map row (range_with_len 0 h))
rows_spelled depth number w h row long spelled =
    let strip = flat_map row (range_with_len 0 h) in
    let f = sample_bits Little depth in
    record {
      count = length-made_samples number w h;
      row = λ k within.
          let bytes : slice_chunk strip (row_bytes depth w) k ≡ row k =
          part_rows row (row_bytes depth w) 0 h k long within ∙ ap row (omega arith) in
          let samples : slice_chunk (made_samples number w h) w k ≡ made_row number w k =
          row_part_is number w h k within in
          let P : List ℕ → Type 0 = λ xs. Spells f depth xs (slice_chunk strip (row_bytes depth w) k) in
          let Q : List ℕ → Type 0 = λ xs. Spells f depth (made_row number w k) xs in
          subst P (sym samples) (subst Q (sym bytes) (spelled k));
    }

-- a list that is cut in rows, each of which is made of items
pub flat_twice : (f : ℕ → List ℕ) (g : ℕ → List ℕ) (xs : List ℕ)
    → flat_map f (flat_map g xs) ≡ flat_map (λ x. flat_map f (g x)) xs
flat_twice f g [] = refl
flat_twice f g (x ∷ xs) =
    flat_map-append f (g x) (flat_map g xs) ∙ ap (λ ys. flat_map f (g x) ++ ys) (flat_twice f g xs)

pair_digits_of : (xs : List ℕ) → All (λ x. x < 4096) xs
    → byte_bits (flat_map (little_bytes 2) xs) ≡ flat_map (sample_bits Little 16) xs
pair_digits_of [] small = refl
pair_digits_of (x ∷ xs) small =
    let low = x % 256 in
    let high = x / 256 % 256 in
    let below : x < 4096 = All-head (λ x. x < 4096) x xs small in
    let whole : high * 256 + low ≡ x = omega arith in
    let rest = pair_digits_of xs (All-tail (λ x. x < 4096) x xs small) in
    let pair : byte_bits (little_bytes 2 x) ≡ sample_bits Little 16 x =
    ap (λ ys. bits_of 8 low ++ ys) (append-nil (bits_of 8 high))
    ∙ sym (little_digits low high (omega arith) (omega arith))
    ∙ ap (sample_bits Little 16) whole in
    byte_bits-append (little_bytes 2 x) (flat_map (little_bytes 2) xs)
    ∙ ap (λ ys. ys ++ byte_bits (flat_map (little_bytes 2) xs)) pair
    ∙ ap (λ ys. sample_bits Little 16 x ++ ys) rest

pub length-pairs : (xs : List ℕ) → length (flat_map (little_bytes 2) xs) ≡ 2 * length xs
length-pairs [] = refl
length-pairs (x ∷ xs) = let rest = length-pairs xs in omega arith

-- a row of 16 bits, and one of 12
pub pairs_long : (number w r : ℕ) → length (flat_map (little_bytes 2) (made_row number w r)) ≡ row_bytes 16 w
pairs_long number w r = omega (arith, length-pairs (made_row number w r), length-made_row number w r)

pub pairs_spell : (number w r : ℕ)
    → Spells (sample_bits Little 16) 16 (made_row number w r) (flat_map (little_bytes 2) (made_row number w r))
pairs_spell number w r =
    let row = made_row number w r in
    record {
      fits = All-weaker (λ x. x < 4096) (λ x. x < 2 ^ 16) (λ x h. omega arith) row (small_row number w r);
      padding = [];
      within_byte = omega arith;
      spelled = pair_digits_of row (small_row number w r) ∙ sym (append-nil (flat_map (sample_bits Little 16) row));
    }

pub packed_long : (number w r : ℕ) → length (packed_row (made_row number w r)) ≡ row_bytes 12 w
unfolding packed_row
packed_long number w r =
    let row = made_row number w r in
    omega (arith, length-whole false (flat_map (bits_of 12) row), length-digits row, length-made_row number w r)

pub packed_spell : (number w r : ℕ)
    → Spells (sample_bits Little 12) 12 (made_row number w r) (packed_row (made_row number w r))
unfolding packed_row
packed_spell number w r =
    let row = made_row number w r in
    let bits = flat_map (bits_of 12) row in
    let own : bits_of 12 ≡ sample_bits Little 12 = sym (own_digits Little 12 (omega arith)) in
    record {
      fits = All-weaker (λ x. x < 4096) (λ x. x < 2 ^ 12) (λ x h. omega arith) row (small_row number w r);
      padding = replicate (lacking (length bits)) false;
      within_byte = omega (arith, length-replicate (lacking (length bits)) false);
      spelled = whole_digits false bits ∙ ap (λ f. flat_map f row ++ replicate (lacking (length bits)) false) own;
    }

-- ---- a strip behind other bytes

pub strip_bytes : (before strip : List ℕ) (w h : ℕ) → length before ≡ 146
    → segment_bytes (before ++ strip) (one_strip w h (length strip)) ≡ strip
strip_bytes before strip w h long =
    let size : 146 + length strip - 146 ≡ length strip = omega arith in
    ap (take (146 + length strip - 146)) (drop_at before strip 146 long)
    ∙ take_all (146 + length strip - 146) strip (omega arith)

-- samples that the strip spells are those that it is decoded to
pub unpacked_so : (depth w h : ℕ) (bytes strip samples : List ℕ) → depth ≤ 16
    → segment_bytes bytes (one_strip w h (length strip)) ≡ strip → length strip ≡ needed_bytes depth h w
    → SpellsRows Little depth h w samples strip
    → samples_in bytes (Packed Little depth) (one_strip w h (length strip)) ≡ Ok samples
unfolding samples_in
unpacked_so depth w h bytes strip samples most is long spelled =
    let enough : nat_lt (length strip) (needed_bytes depth h w) ≡ false =
    le-ltb (length strip) (needed_bytes depth h w) (omega (arith, long)) in
    let same : unpacked Little depth h w strip ≡ samples =
    sym (formula_alone Little depth h w strip samples most (omega (arith, long)) spelled) in
    rw (is, enough, same) refl

-- ---- one strip that is decoded

pub none_refused : (bytes samples : List ℕ) (coding : Coding) (segment : Segment)
    → samples_in bytes coding segment ≡ Ok samples → fault_from bytes coding 0 (segment ∷ []) ≡ None
unfolding fault_from
none_refused bytes samples coding segment e = rw e refl

one_raw_sample : (bytes samples : List ℕ) (coding : Coding) (w h count r c : ℕ)
    → samples_in bytes coding (one_strip w h count) ≡ Ok samples → r < h → c < w
    → raw_sample bytes coding (one_strip w h count ∷ []) r c ≡ get_or samples (r * w + c) 0
unfolding raw_sample
one_raw_sample bytes samples coding w h count r c e row col =
    let there = has_pixel-true r c (whole_rect h w)
    (record { top = omega arith; bottom = row; left = omega arith; right = col }) in
    let row_is : r - 0 ≡ r = omega arith in
    let col_is : c - 0 ≡ c = omega arith in
    rw (there, e, row_is, col_is) refl

pub made_plane_is : (number w h : ℕ) (f : ℕ → ℕ → ℕ → ℕ)
    → ((r c p : ℕ) → r < h → c < w → f r c p ≡ made_sample number r c) → made_samples number w h ≡ samples_of h w 1 f
made_plane_is number w h f same =
    same_samples h w 1 f (made_samples number w h) (omega (arith, length-made_samples number w h))
    (λ r c p row col plane.
    let place : (r * w + c) * 1 + p ≡ r * w + c = omega arith in
    ap (λ k. get_or (made_samples number w h) k 0) place ∙ sample_is number w h r c row col ∙ sym (same r c p row col))

pub plane_is : (bytes : List ℕ) (coding : Coding) (number w h count : ℕ)
    → samples_in bytes coding (one_strip w h count) ≡ Ok (made_samples number w h)
    → segments_plane bytes coding (record { rows = h; cols = w; planes = 1 }) (one_strip w h count ∷ [])
    ≡ made_plane number w h
unfolding segments_plane
plane_is bytes coding number w h count e =
    let samples = made_samples number w h in
    let f = λ (r c p : ℕ). raw_sample bytes coding (one_strip w h count ∷ []) r c in
    let g = λ (r c p : ℕ). made_sample number r c in
    let one = made_plane_is number w h f
    (λ r c p row col. one_raw_sample bytes samples coding w h count r c e row col
    ∙ sample_is number w h r c row col) in
    let other = made_plane_is number w h g (λ r c p row col. refl) in
    let with_samples : List ℕ → Plane = λ xs. record { rows = h; cols = w; planes = 1; samples = xs } in
    ap with_samples (sym one ∙ other)
