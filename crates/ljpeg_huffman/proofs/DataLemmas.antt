-- Bytes of data and the bits that are held of them.
use Rattle.std.proofs.Common.{drop, get_or, ne_eqb, ◌≡◌, ℕ, zero, suc, ◌+◌, ◌-◌, ◌*◌, ◌/◌, ◌%◌, ◌^◌, ◌<◌, ◌≤◌, true}
use Rattle.std.proofs.Common.{false, eqb, List, [], ◌∷◌, ◌++◌, length, replicate, refl, sym, ap, ap₂, ◌∙◌, arith}
use Rattle.std.proofs.Common.{append_assoc, pow_pos, mod-lt, mod-eq_of_lt, lt_trans, lit<}
use Rattle.std.proofs.Math.Nat.{zero-div}
use Rattle.std.proofs.lemmas.Nat.{shr_high, mod_low, shl_below, one_shl}
use Rattle.std.proofs.lemmas.Bool.{cond-true, cond-false}
use Rattle.binary_digits.specs.Digits.{bits_of}
use Rattle.ljpeg_huffman.specs.Differences.{unstuffed, data_bits}
use Rattle.ljpeg_huffman.specs.inner.Registers.{bits_left, IsWindow}
use Rattle.binary_digits.proofs.DigitLemmas.{bits_of-join, bits_of-zero, bits_of-suc, bits_of-split, bits_of-mod}

pub unstuffed-nil : unstuffed [] ≡ []
unfolding unstuffed
unstuffed-nil = refl

pub unstuffed-plain : (byte : ℕ) (bytes : List ℕ) → eqb byte 255 ≡ false
    → unstuffed (byte ∷ bytes) ≡ byte ∷ unstuffed bytes
unfolding unstuffed
unstuffed-plain byte [] h = cond-false _ _ _ h
unstuffed-plain byte (next ∷ bytes) h = cond-false _ _ _ h

pub unstuffed-cut : (byte : ℕ) → eqb byte 255 ≡ true → unstuffed (byte ∷ []) ≡ []
unfolding unstuffed
unstuffed-cut byte h = cond-true _ _ _ h

pub unstuffed-stuffed : (byte next : ℕ) (bytes : List ℕ) → eqb byte 255 ≡ true → eqb next 0 ≡ true
    → unstuffed (byte ∷ next ∷ bytes) ≡ 255 ∷ unstuffed bytes
unfolding unstuffed
unstuffed-stuffed byte next bytes h k = cond-true _ _ _ h ∙ cond-true _ _ _ k

pub unstuffed-marker : (byte next : ℕ) (bytes : List ℕ) → eqb byte 255 ≡ true → eqb next 0 ≡ false
    → unstuffed (byte ∷ next ∷ bytes) ≡ []
unfolding unstuffed
unstuffed-marker byte next bytes h k = cond-true _ _ _ h ∙ cond-false _ _ _ k

pub data_bits-more : (bytes rest : List ℕ) (byte : ℕ) → unstuffed bytes ≡ byte ∷ unstuffed rest
    → data_bits bytes ≡ bits_of 8 byte ++ data_bits rest
unfolding data_bits
data_bits-more bytes rest byte e = rw e refl

pub data_bits-end : (bytes : List ℕ) → unstuffed bytes ≡ [] → data_bits bytes ≡ []
unfolding data_bits
data_bits-end bytes e = rw e refl

pub bits_left-none : (bytes : List ℕ) → bits_left 0 0 bytes ≡ data_bits bytes
unfolding bits_left
bits_left-none bytes = rw bits_of-zero refl

pub left_is : (held word : ℕ) (bytes : List ℕ) → bits_left held word bytes ≡ bits_of held word ++ data_bits bytes
unfolding bits_left
left_is held word bytes = refl

-- `size` more bits in a word
pub bits_of-push : (held size above word number : ℕ) → number < 2 ^ size
    → bits_of (held + size) (word % 2 ^ (held + above) * 2 ^ size + number) ≡ bits_of held word ++ bits_of size number
bits_of-push held size above word number small =
    let kept = word % 2 ^ (held + above) in
    let prefix : bits_of held ((kept * 2 ^ size + number) / 2 ^ size) ≡ bits_of held word =
    ap (bits_of held) (shr_high kept size number small) ∙ bits_of-mod held above word in
    let whole : size ≡ size + 0 = omega arith in
    let suffix : bits_of size (kept * 2 ^ size + number) ≡ bits_of size number =
    sym (bits_of-mod size 0 (kept * 2 ^ size + number))
    ∙ ap (λ k. bits_of size ((kept * 2 ^ size + number) % 2 ^ k)) (sym whole)
    ∙ ap (bits_of size) (mod_low kept size number small) in
    bits_of-split held size (kept * 2 ^ size + number) ∙ ap₂ (λ x y. x ++ y) prefix suffix

-- a byte that moves from the data to the word
pub bits_left-push : (held word byte : ℕ) (bytes rest : List ℕ) → held ≤ 56 → byte < 256
    → unstuffed bytes ≡ byte ∷ unstuffed rest
    → bits_left (held + 8) (word % 2 ^ 56 * 2 ^ 8 + byte) rest ≡ bits_left held word bytes
unfolding bits_left
bits_left-push held word byte bytes rest room small e =
    let wide : 56 ≡ held + (56 - held) = omega arith in
    let pushed : bits_of (held + 8) (word % 2 ^ 56 * 2 ^ 8 + byte) ≡ bits_of held word ++ bits_of 8 byte =
    ap (λ k. bits_of (held + 8) (word % 2 ^ k * 2 ^ 8 + byte)) wide
    ∙ bits_of-push held 8 (56 - held) word byte small in
    ap (λ x. x ++ data_bits rest) pushed ∙ append_assoc (bits_of held word) (bits_of 8 byte) (data_bits rest)
    ∙ ap (λ x. bits_of held word ++ x) (sym (data_bits-more bytes rest byte e))

-- zeros below a number are zeros behind its word
bits_of-zeros : (size : ℕ) → bits_of size 0 ≡ replicate size false
bits_of-zeros zero = bits_of-zero 0
bits_of-zeros (suc size) =
    let bit : eqb (0 / 2 ^ size % 2) 1 ≡ false = ap (λ n. eqb (n % 2) 1) (zero-div (2 ^ size)) in
    bits_of-suc size 0 ∙ ap₂ (λ x y. x ∷ y) bit (bits_of-zeros size)

pub window_full : (held word : ℕ) → 16 ≤ held → IsWindow held word (word / 2 ^ (held - 16) % 2 ^ 16)
window_full held word h =
    let whole : 16 + (held - 16) ≡ held = omega arith in
    record {
      small = mod-lt (word / 2 ^ (held - 16)) (pow_pos 16);
      full = λ k. ap (λ n. bits_of n word) (sym whole) ∙ bits_of-split 16 (held - 16) word
          ∙ ap (λ x. x ++ bits_of (held - 16) word) (sym (bits_of-mod 16 0 (word / 2 ^ (held - 16))));
      short = λ k. absurd (omega arith);
    }

pub window_short : (held word : ℕ) → held < 16 → IsWindow held word (word % 2 ^ held * 2 ^ (16 - held))
window_short held word h =
    let parts : held + (16 - held) ≡ 16 = omega arith in
    let whole : held ≡ held + 0 = omega arith in
    let low : word % 2 ^ held < 2 ^ held = mod-lt word (pow_pos held) in
    let shifted : word % 2 ^ held * 2 ^ (16 - held) ≡ word % 2 ^ (held + 0) * 2 ^ (16 - held) + 0 =
    ap (λ k. word % 2 ^ k * 2 ^ (16 - held)) whole ∙ omega arith in
    record {
      small = rw parts at (shl_below (word % 2 ^ held) held (16 - held) low);
      full = λ k. absurd (omega arith);
      short = λ k. ap₂ bits_of (sym parts) shifted ∙ bits_of-push held (16 - held) 0 word 0 (pow_pos (16 - held))
          ∙ ap (λ x. bits_of held word ++ x) (bits_of-zeros (16 - held));
    }

-- bits that are taken from the held ones, in two parts
pub bits_of-take : (held word first second : ℕ) → first + second ≤ held
    → bits_of held word ≡ bits_of first (word / 2 ^ (held - first))
    ++ (bits_of second (word / 2 ^ (held - (first + second)) % 2 ^ second) ++ bits_of (held - (first + second)) word)
bits_of-take held word first second h =
    let parts : first + (held - first) ≡ held = omega arith in
    let later : second + (held - (first + second)) ≡ held - first = omega arith in
    let whole : second ≡ second + 0 = omega arith in
    ap (λ n. bits_of n word) (sym parts) ∙ bits_of-split first (held - first) word
    ∙ ap (λ x. bits_of first (word / 2 ^ (held - first)) ++ x)
    (ap (λ n. bits_of n word) (sym later) ∙ bits_of-split second (held - (first + second)) word
    ∙ ap (λ x. x ++ bits_of (held - (first + second)) word)
    (sym (ap (λ k. bits_of second (word / 2 ^ (held - (first + second)) % 2 ^ k)) whole ∙ bits_of-mod second 0
    (word / 2 ^ (held - (first + second))))))

-- the same, as the code masks them
pub bits_of-taken : (held word size further : ℕ) → further ≤ size → further ≤ 15 → size ≤ held
    → bits_of held word ≡ bits_of (size - further) (word / 2 ^ (held - (size - further))) ++ bits_of further
    (word / 2 ^ (held - size) % (1 * 2 ^ further % 2 ^ 64)) ++ bits_of (held - size) word
bits_of-taken held word size further few narrow enough =
    let parts : (size - further) + further ≡ size = omega arith in
    let mask : 1 * 2 ^ further % 2 ^ 64 ≡ 2 ^ further = one_shl further 64 (omega arith) in
    let taken = bits_of-take held word (size - further) further (omega arith) in
    rw mask (rw parts at taken ∙ sym
    (append_assoc (bits_of (size - further) (word / 2 ^ (held - (size - further))))
    (bits_of further (word / 2 ^ (held - size) % 2 ^ further)) (bits_of (held - size) word)))

pub window_masked : (held word : ℕ) → held < 16
    → IsWindow held word (word % (1 * 2 ^ held % 2 ^ 64) * 2 ^ (16 - held) % 2 ^ 64)
window_masked held word h =
    let mask : 1 * 2 ^ held % 2 ^ 64 ≡ 2 ^ held = one_shl held 64 (omega arith) in
    let window = window_short held word h in
    let small : word % 2 ^ held * 2 ^ (16 - held) < 2 ^ 64 = lt_trans window.small (lit< tt) in
    rw (mask, mod-eq_of_lt small) window

four_joined : (a b c d : ℕ) → b < 256 → c < 256 → d < 256
    → bits_of 32 (a * 16777216 + b * 65536 + c * 256 + d) ≡ bits_of 8 a ++ (bits_of 8 b ++ (bits_of 8 c ++ bits_of 8 d))
four_joined a b c d hb hc hd =
    let number : a * 16777216 + b * 65536 + c * 256 + d ≡ a * 2 ^ 24 + (b * 2 ^ 16 + (c * 2 ^ 8 + d)) = omega arith in
    ap (bits_of 32) number
    ∙ bits_of-join 8 24 a (b * 2 ^ 16 + (c * 2 ^ 8 + d)) (omega arith)
    ∙ ap (λ x. bits_of 8 a ++ x)
    (bits_of-join 8 16 b (c * 2 ^ 8 + d) (omega arith) ∙ ap (λ x. bits_of 8 b ++ x)
    (bits_of-join 8 8 c d (omega arith)))

-- four bytes at once
pub bits_left-four : (held word number : ℕ) (bytes : List ℕ) → held ≤ 32 → 4 ≤ length bytes → get_or bytes 0 0 < 256
    → get_or bytes 1 0 < 256 → get_or bytes 2 0 < 256 → get_or bytes 3 0 < 256
    → (get_or bytes 0 0 ≡ 255 → ⊥) → (get_or bytes 1 0 ≡ 255 → ⊥) → (get_or bytes 2 0 ≡ 255 → ⊥)
    → (get_or bytes 3 0 ≡ 255 → ⊥)
    → number ≡ get_or bytes 0 0 * 16777216 + get_or bytes 1 0 * 65536 + get_or bytes 2 0 * 256 + get_or bytes 3 0
    → bits_left (held + 32) (word % 2 ^ 32 * 2 ^ 32 + number) (drop 4 bytes) ≡ bits_left held word bytes
bits_left-four held word number (a ∷ b ∷ c ∷ d ∷ bytes) room size sa sb sc sd pa pb pc pd value =
    let few : number < 2 ^ 32 = omega arith in
    let wide : 32 ≡ held + (32 - held) = omega arith in
    let pushed : bits_of (held + 32) (word % 2 ^ 32 * 2 ^ 32 + number) ≡ bits_of held word ++ bits_of 32 number =
    ap (λ k. bits_of (held + 32) (word % 2 ^ k * 2 ^ 32 + number)) wide
    ∙ bits_of-push held 32 (32 - held) word number few in
    let joined : bits_of 32 number ≡ bits_of 8 a ++ (bits_of 8 b ++ (bits_of 8 c ++ bits_of 8 d)) =
    ap (bits_of 32) value ∙ four_joined a b c d sb sc sd in
    let given : data_bits (a ∷ b ∷ c ∷ d ∷ bytes)
    ≡ bits_of 8 a ++ (bits_of 8 b ++ (bits_of 8 c ++ (bits_of 8 d ++ data_bits bytes))) =
    data_bits-more _ _ a (unstuffed-plain a (b ∷ c ∷ d ∷ bytes) (ne_eqb a 255 pa)) ∙ ap (λ x. bits_of 8 a ++ x)
    (data_bits-more _ _ b (unstuffed-plain b (c ∷ d ∷ bytes) (ne_eqb b 255 pb)) ∙ ap (λ x. bits_of 8 b ++ x)
    (data_bits-more _ _ c (unstuffed-plain c (d ∷ bytes) (ne_eqb c 255 pc)) ∙ ap (λ x. bits_of 8 c ++ x)
    (data_bits-more _ _ d (unstuffed-plain d bytes (ne_eqb d 255 pd))))) in
    let grouped : (bits_of 8 a ++ (bits_of 8 b ++ (bits_of 8 c ++ bits_of 8 d))) ++ data_bits bytes
    ≡ bits_of 8 a ++ (bits_of 8 b ++ (bits_of 8 c ++ (bits_of 8 d ++ data_bits bytes))) = simp append_assoc in
    left_is (held + 32) (word % 2 ^ 32 * 2 ^ 32 + number) bytes ∙ ap (λ x. x ++ data_bits bytes) pushed
    ∙ append_assoc (bits_of held word) (bits_of 32 number) (data_bits bytes)
    ∙ ap (λ x. bits_of held word ++ x) (ap (λ x. x ++ data_bits bytes) joined ∙ grouped ∙ sym given)
    ∙ sym (left_is held word (a ∷ b ∷ c ∷ d ∷ bytes))
bits_left-four held word number [] room size sa sb sc sd pa pb pc pd value = absurd (omega arith)
bits_left-four held word number (a ∷ []) room size sa sb sc sd pa pb pc pd value = absurd (omega arith)
bits_left-four held word number (a ∷ b ∷ []) room size sa sb sc sd pa pb pc pd value = absurd (omega arith)
bits_left-four held word number (a ∷ b ∷ c ∷ []) room size sa sb sc sd pa pb pc pd value = absurd (omega arith)
