-- The encoder's stream as one list of bytes.
use Rattle.std.proofs.Common.{◌≡◌, ℕ, ◌+◌, ◌*◌, ◌/◌, ◌<◌, ◌≤◌, true, false, cond, eqb, inl, inr, List, [], ◌∷◌, ◌++◌}
use Rattle.std.proofs.Common.{length, get_or, replicate, refl, sym, ap, ◌∙◌, subst, arith, ne_eqb, Result, Ok, Err}
use Rattle.std.proofs.Common.{is_ok}
use Rattle.std.proofs.lemmas.Bool.{cases_lt, false≢true}
use Rattle.std.proofs.lemmas.List.{drop_at, take_at}
use Rattle.std.proofs.lemmas.List.Elements.{All-cons, All-drop, All-from_get_or, All-head, All-nil, All-take}
use Rattle.std.proofs.lemmas.Nat.{div-mul-add}
use Rattle.ljpeg_predict.specs.Encoding.{IsStream, head, sample_bits, stuffed, written_scan}
use Rattle.ljpeg_predict.specs.Headers.{predictor_of}
use Rattle.frame_make.specs.Made.{stream_bits, stream_of, whole_bytes}
use Rattle.frame_make.proofs.WholeBytes.{AreBytes, lacking, whole_alone, whole_digits}

-- what holds of all of a list holds of its prefixes and suffixes
prefix_bytes : (xs ys : List ℕ) → AreBytes (xs ++ ys) → AreBytes xs
prefix_bytes xs ys h = subst AreBytes (take_at xs ys (length xs) refl)
    (All-take (λ byte. byte < 256) (length xs) (xs ++ ys) h)

suffix_bytes : (xs ys : List ℕ) → AreBytes (xs ++ ys) → AreBytes ys
suffix_bytes xs ys h = subst AreBytes (drop_at xs ys (length xs) refl)
    (All-drop (λ byte. byte < 256) (length xs) (xs ++ ys) h)

-- a byte, and a zero where it is FF
abbrev with_zero : ℕ → List ℕ
with_zero byte = cond (eqb byte 255) (255 ∷ 0 ∷ []) (byte ∷ [])

one_small : (byte : ℕ) → AreBytes (with_zero byte) → byte < 256
one_small byte h =
    elim (cases_lt byte 256) [
      | inl below ↦ below
      | inr above ↦
          let other : eqb byte 255 ≡ false = ne_eqb byte 255 (omega arith) in
          All-head (λ b. b < 256) byte [] (subst (λ t. AreBytes (cond t (255 ∷ 0 ∷ []) (byte ∷ []))) other h)
    ]

-- stuffed bytes are bytes only where those before were
small_before : (bytes : List ℕ) → AreBytes (stuffed bytes) → AreBytes bytes
unfolding stuffed
small_before [] h = All-nil (λ byte. byte < 256)
small_before (byte ∷ bytes) h =
    All-cons (λ b. b < 256) byte bytes (one_small byte (prefix_bytes (with_zero byte) (stuffed bytes) h))
    (small_before bytes (suffix_bytes (with_zero byte) (stuffed bytes) h))

-- the bits, by the predictor that was chosen
bits_are : (samples bytes : List ℕ) (w h : ℕ) (s : IsStream samples h w 12 1 bytes)
    → stream_bits w h samples ≡ sample_bits (written_scan 12 h w s.predictor []) samples (length samples)
unfolding stream_bits
bits_are samples bytes w h s = let chosen = s.chosen in cc

-- the encoder's stream is these bytes
pub stream_alone : (samples bytes : List ℕ) (w h : ℕ) → AreBytes bytes → IsStream samples h w 12 1 bytes
    → bytes ≡ stream_of w h samples
unfolding stream_of
stream_alone samples bytes w h small s =
    let bits = stream_bits w h samples in
    let first = head 12 h w 1 in
    let last = 0xFF ∷ 0xD9 ∷ [] in
    let all : AreBytes ((first ++ stuffed s.stretch) ++ last) = subst AreBytes s.is small in
    let inner = prefix_bytes (first ++ stuffed s.stretch) last all in
    let stretch = small_before s.stretch (suffix_bytes first (stuffed s.stretch) inner) in
    let same : s.stretch ≡ whole_bytes true bits =
    whole_alone true bits s.stretch s.ones s.few stretch
    (s.digits ∙ ap (λ xs. xs ++ replicate s.ones true) (sym (bits_are samples bytes w h s))) in
    s.is ∙ ap (λ xs. first ++ stuffed xs ++ last) same

-- the value of an answer that is one
value_of : {A E : Type 0} (r : Result A E) → is_ok r ≡ true → (a : A) × (r ≡ Ok a)
value_of (Ok a) there = (a, refl)
value_of (Err e) there = absurd (false≢true there)

-- and these bytes are the encoder's stream
pub stream_is : (samples : List ℕ) (w h : ℕ) → IsStream samples h w 12 1 (stream_of w h samples)
unfolding stream_of stream_bits
stream_is samples w h =
    let bits = stream_bits w h samples in
    let one = value_of (predictor_of 1) refl in
    let chosen = one.1 in
    let same : bits ≡ sample_bits (written_scan 12 h w one.0 []) samples (length samples) = cc in
    record {
      predictor = one.0;
      chosen = chosen;
      stretch = whole_bytes true bits;
      ones = lacking (length bits);
      few = omega arith;
      digits = whole_digits true bits ∙ ap (λ xs. xs ++ replicate (lacking (length bits)) true) same;
      is = refl;
    }

-- the encoder's stream behind other bytes
pub stream_behind : (samples old new bytes : List ℕ) (w h : ℕ) → ((i d : ℕ) → i < length new → get_or new i d < 256)
    → length samples ≡ h * w → 1 ≤ w → IsStream samples (length samples / w) w 12 1 bytes → new ≡ old ++ bytes
    → new ≡ old ++ stream_of w h samples
stream_behind samples old new bytes w h small count some told is =
    let all : AreBytes new = All-from_get_or (λ byte. byte < 256) new 0 (λ i within. small i 0 within) in
    let behind = suffix_bytes old bytes (subst AreBytes is all) in
    let whole : h * w ≡ h * w + 0 = omega arith in
    let lines : length samples / w ≡ h = ap (λ n. n / w) (count ∙ whole) ∙ div-mul-add h w 0 (omega arith) in
    let one : IsStream samples h w 12 1 bytes = subst (λ n. IsStream samples n w 12 1 bytes) lines told in
    is ∙ ap (λ xs. old ++ xs) (stream_alone samples bytes w h behind one)
