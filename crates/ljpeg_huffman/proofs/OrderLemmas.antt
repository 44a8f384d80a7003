-- The code words of a table ascend, so none is a prefix of another.
use Rattle.std.proofs.Common.{◌≡◌, ℕ, suc, ◌+◌, ◌-◌, ◌*◌, ◌^◌, ◌<◌, ◌≤◌, ◌⊎◌, inl, inr, Bool, List, [], ◌∷◌, ◌++◌}
use Rattle.std.proofs.Common.{length, take, drop, get_or, sym, ap, ap₂, ◌∙◌, arith, pow_pos, length-append, zero-add}
use Rattle.std.proofs.Common.{add_comm, All, Contains, le_trans, mul-le-mul_right, mod-eq_of_lt, length-take}
use Rattle.std.proofs.Common.{le_of_mul-le-mul_right, add_assoc, mul_assoc, mul-lt-mul_of_pos_right, append-nil, subst₂}
use Rattle.std.proofs.Math.Nat.{pow-succ'}
use Rattle.std.proofs.lemmas.Nat.{pow-add}
use Rattle.std.proofs.lemmas.List.{get_or_default}
use Rattle.std.proofs.lemmas.List.Elements.{All-nil, All-cons, All-weaker}
use Rattle.std.proofs.lemmas.List.Kept.{AllPairs-cons}
use Rattle.std.proofs.lemmas.Bool.{cases_order, cases_lt}
use Rattle.binary_digits.specs.Digits.{bits_of, number_of}
use Rattle.ljpeg_huffman.specs.Words.{Table, words_of_length, words_from, code_words, space_from, IsPrefix}
use Rattle.ljpeg_huffman.specs.Words.{IsPrefixFree}
use Rattle.ljpeg_huffman.specs.inner.Tables.{high_end}
use Rattle.binary_digits.proofs.DigitLemmas.{length-bits_of, number_of-bits_of, number_of-append, number_of-lt}
use Rattle.binary_digits.proofs.DigitLemmas.{append_shorter}

-- The least number of 16 bits that begins with a code word of at most 16 bits.
abbrev pub low_end : List Bool → ℕ
low_end word = number_of word * 2 ^ (16 - length word)

-- The words ascend from `lo` to `hi`, and have at most 16 bits.
abbrev pub Ascends : ℕ → Table → ℕ → Type 0
Ascends lo [] hi = lo ≤ hi
Ascends lo (entry ∷ entries) hi = (lo ≤ low_end entry.0) × (length entry.0 ≤ 16) × Ascends (high_end entry.0) entries hi

Ascends-from : (lo lower hi : ℕ) (xs : Table) → lower ≤ lo → Ascends lo xs hi → Ascends lower xs hi
Ascends-from lo lower hi [] h a = omega arith
Ascends-from lo lower hi (x ∷ xs) h a = (le_trans h a.0, a.1, a.2)

Ascends-upto : (hi higher : ℕ) (xs : Table) (lo : ℕ) → hi ≤ higher → Ascends lo xs hi → Ascends lo xs higher
Ascends-upto hi higher [] lo h a = omega arith
Ascends-upto hi higher (x ∷ xs) lo h a = (a.0, a.1, Ascends-upto hi higher xs (high_end x.0) h a.2)

Ascends-append : (mid hi : ℕ) (xs ys : Table) (lo : ℕ) → Ascends lo xs mid → Ascends mid ys hi
    → Ascends lo (xs ++ ys) hi
Ascends-append mid hi [] ys lo a b = Ascends-from mid lo hi ys a b
Ascends-append mid hi (x ∷ xs) ys lo a b = (a.0, a.1, Ascends-append mid hi xs ys (high_end x.0) a.2 b)

Ascends-words : (size code : ℕ) (values : List ℕ) → size ≤ 16 → code + length values ≤ 2 ^ size
    → Ascends (code * 2 ^ (16 - size)) (words_of_length size code values) ((code + length values) * 2 ^ (16 - size))
unfolding words_of_length
Ascends-words size code [] small fits = mul-le-mul_right (2 ^ (16 - size)) (omega arith)
Ascends-words size code (v ∷ vs) small fits =
    let number : number_of (bits_of size code) ≡ code = number_of-bits_of size code ∙ mod-eq_of_lt (omega arith) in
    let lo : low_end (bits_of size code) ≡ code * 2 ^ (16 - size) =
    ap₂ (λ n k. n * 2 ^ (16 - k)) number (length-bits_of size code) in
    let hi : high_end (bits_of size code) ≡ suc code * 2 ^ (16 - size) =
    ap₂ (λ n k. n * 2 ^ (16 - k)) (ap (λ n. n + 1) number ∙ omega arith) (length-bits_of size code) in
    let rest = Ascends-words size (suc code) vs small (omega arith) in
    let same : (suc code + length vs) ≡ (code + suc (length vs)) = omega arith in
    let upto : Ascends (suc code * 2 ^ (16 - size)) (words_of_length size (suc code) vs)
    ((code + suc (length vs)) * 2 ^ (16 - size)) = rw (← same) rest in (
      omega (arith, lo),
      omega (arith, length-bits_of size code),
      Ascends-from _ _ _ (words_of_length size (suc code) vs)
          (omega (arith, hi)) upto,
    )

-- `(code + c) * unit` where `base` is `code * unit`
scaled_add : (code c unit base : ℕ) → code * (2 * unit) ≡ 2 * base
    → (code * unit ≡ base) × ((code + c) * unit ≡ base + c * unit)
scaled_add code c unit base e = (grind arith, grind arith)

-- a code that leaves room below 2^16 has at most `size` bits
fits_size : (code size gap : ℕ) → gap + size ≡ 16 → code * 2 ^ gap ≤ 2 ^ 16 → code ≤ 2 ^ size
fits_size code size gap e h =
    let whole : 2 ^ 16 ≡ 2 ^ size * 2 ^ gap = ap (λ k. 2 ^ k) (sym e ∙ add_comm gap size) ∙ pow-add 2 size gap in
    let bound : code * 2 ^ gap ≤ 2 ^ size * 2 ^ gap = rw (← whole) h in
    le_of_mul-le-mul_right bound (pow_pos gap)

-- `base` is where the words of 16 bits that begin with the first code word stand.
Ascends-words_from : (base size code : ℕ) (counts values : List ℕ) → size + length counts ≡ 17
    → code * 2 ^ (17 - size) ≡ 2 * base → base + space_from size counts ≤ 2 ^ 16
    → Ascends base (words_from size code counts values) (base + space_from size counts)
unfolding words_from space_from
Ascends-words_from base size code [] values sizes scaled fits = omega arith
Ascends-words_from base size code (c ∷ cs) values sizes scaled fits =
    let small : size ≤ 16 = omega arith in
    let gap : 17 - size ≡ suc (16 - size) = omega arith in
    let double : code * (2 * 2 ^ (16 - size)) ≡ 2 * base =
    ap (λ k. code * k) (sym (pow-succ' 2 (16 - size)) ∙ sym (ap (λ k. 2 ^ k) gap)) ∙ scaled in
    let at = scaled_add code c (2 ^ (16 - size)) base double in
    let first : code * 2 ^ (16 - size) ≡ base = at.0 in
    let last : (code + c) * 2 ^ (16 - size) ≡ base + c * 2 ^ (16 - size) = at.1 in
    let taken : length (take c values) ≤ c = rw length-take (omega arith) in
    let room : code + c ≤ 2 ^ size = fits_size (code + c) size (16 - size) (omega arith) (omega arith) in
    let words = Ascends-words size code (take c values) small (omega arith) in
    let grown : code + length (take c values) ≤ code + c = omega arith in
    let upper : (code + length (take c values)) * 2 ^ (16 - size) ≤ base + c * 2 ^ (16 - size) =
    le_trans (mul-le-mul_right (2 ^ (16 - size)) grown) (omega (arith, last)) in
    let here : Ascends base (words_of_length size code (take c values)) (base + c * 2 ^ (16 - size)) =
    Ascends-upto _ _ (words_of_length size code (take c values)) base upper (rw first at words) in
    let next : 2 * (code + c) * 2 ^ (17 - suc size) ≡ 2 * (base + c * 2 ^ (16 - size)) =
    ap (λ k. 2 * (code + c) * 2 ^ k) (let e : 17 - suc size ≡ 16 - size = omega arith in e)
    ∙ mul_assoc 2 (code + c) (2 ^ (16 - size)) ∙ ap (λ n. 2 * n) last in
    let rest = Ascends-words_from (base + c * 2 ^ (16 - size)) (suc size) (2 * (code + c)) cs (drop c values)
    (omega arith) next (omega arith) in
    Ascends-append _ _ (words_of_length size code (take c values)) _ base here (rw (← add_assoc) rest)

-- the words of a table that fits
pub Ascends-code_words : (counts values : List ℕ) → length counts ≡ 16 → space_from 1 counts ≤ 2 ^ 16
    → Ascends 0 (code_words counts values) (space_from 1 counts)
unfolding code_words
Ascends-code_words counts values sizes fits =
    rw zero-add at (Ascends-words_from 0 1 0 counts values (omega arith) (omega arith) (omega arith))

-- where a word's range lies, when another word begins it
pub prefix_range : (a b : List Bool) → IsPrefix a b → length b ≤ 16 → (low_end a ≤ low_end b) × (low_end b < high_end a)
prefix_range a b p h =
    let rest = p.0 in
    let sizes : length b ≡ length a + length rest = ap length p.1 ∙ length-append a rest in
    let gap : 16 - length a ≡ length rest + (16 - length b) = omega arith in
    let value : number_of b ≡ number_of a * 2 ^ length rest + number_of rest =
    ap number_of p.1 ∙ number_of-append a rest in
    let below = number_of-lt rest in
    let unit : 2 ^ (16 - length a) ≡ 2 ^ length rest * 2 ^ (16 - length b) =
    ap (λ k. 2 ^ k) gap ∙ pow-add 2 (length rest) (16 - length b) in
    let more : number_of a * 2 ^ length rest ≤ number_of b = omega arith in
    let less : number_of b < (number_of a + 1) * 2 ^ length rest = omega arith in
    let lower = mul-le-mul_right (2 ^ (16 - length b)) more in
    let upper = mul-lt-mul_of_pos_right less (pow_pos (16 - length b)) in
    (rw (unit, ← mul_assoc) lower, rw (unit, ← mul_assoc) upper)

-- the range of 16 bits that a word begins doesn't end before it begins
low_high : (word : List Bool) → low_end word ≤ high_end word
low_high word = let e : number_of word ≤ number_of word + 1 = omega arith in mul-le-mul_right (2 ^ (16 - length word)) e

Ascends-ends : (hi : ℕ) (xs : Table) (lo : ℕ) → Ascends lo xs hi → lo ≤ hi
Ascends-ends hi [] lo a = a
Ascends-ends hi (x ∷ xs) lo a = le_trans a.0 (le_trans (low_high x.0) (Ascends-ends hi xs (high_end x.0) a.2))

-- a word whose range lies within these ends
abbrev pub LiesWithin : ℕ → ℕ → List Bool × ℕ → Type 0
LiesWithin lo hi entry = (lo ≤ low_end entry.0) × (high_end entry.0 ≤ hi) × (length entry.0 ≤ 16)

pub All-within : (hi : ℕ) (xs : Table) (lo : ℕ) → Ascends lo xs hi → All (LiesWithin lo hi) xs
All-within hi [] lo a = All-nil (LiesWithin lo hi)
All-within hi (x ∷ xs) lo a =
    let rest = All-within hi xs (high_end x.0) a.2 in
    let wider = All-weaker (LiesWithin (high_end x.0) hi) (LiesWithin lo hi)
    (λ e h. (le_trans (le_trans a.0 (low_high x.0)) h.0, h.1, h.2)) xs rest in
    All-cons (LiesWithin lo hi) x xs (a.0, Ascends-ends hi xs (high_end x.0) a.2, a.1) wider

-- neither of two words begins the other
abbrev pub Apart : List Bool × ℕ → List Bool × ℕ → Type 0
Apart a b = (¬ IsPrefix a.0 b.0) × (¬ IsPrefix b.0 a.0)

apart_from_order : (a b : List Bool) → high_end a ≤ low_end b → length a ≤ 16 → length b ≤ 16
    → (¬ IsPrefix a b) × (¬ IsPrefix b a)
apart_from_order a b h la lb = (
  λ p. let r = prefix_range a b p lb in absurd (omega (arith, h, r.1)),
  λ p. let r = prefix_range b a p la in
      let s = prefix_range a a ([], sym (append-nil a)) la in absurd (omega (arith, h, r.0, s.1)),
)

pub prefix_free_from_order : (hi : ℕ) (xs : Table) (lo : ℕ) → Ascends lo xs hi → IsPrefixFree xs
prefix_free_from_order hi [] lo a = λ i j d p q. absurd (omega arith)
prefix_free_from_order hi (x ∷ xs) lo a =
    let rest = All-within hi xs (high_end x.0) a.2 in
    let each = All-weaker (LiesWithin (high_end x.0) hi) (Apart x)
    (λ e h. apart_from_order x.0 e.0 h.0 a.1 h.2) xs rest in
    AllPairs-cons Apart x xs each (prefix_free_from_order hi xs (high_end x.0) a.2)

-- of two words that begin the same bits one begins the other
one_begins : (a b bits : List Bool) → IsPrefix a bits → IsPrefix b bits → IsPrefix a b ⊎ IsPrefix b a
one_begins a b bits pa pb =
    elim (cases_lt (length a) (length b)) [
      | inl less ↦ inl (append_shorter a b pa.0 pb.0 (sym pa.1 ∙ pb.1) (omega arith))
      | inr more ↦ inr (append_shorter b a pb.0 pa.0 (sym pb.1 ∙ pa.1) more)
    ]

entries_apart : (table : Table) → IsPrefixFree table → (x y : List Bool × ℕ) (i j : ℕ) → i < j → j < length table
    → get_or table i x ≡ x → get_or table j y ≡ y → Apart x y
entries_apart table free x y i j less inside ex ey =
    let other : get_or table j x ≡ y = get_or_default table j x y inside ∙ ey in
    subst₂ Apart ex other (free i j x less inside)

-- in a table without prefixes the bits begin with one code word at most
pub one_word : (table : Table) → IsPrefixFree table → (a b : List Bool) (s t : ℕ) (bits : List Bool)
    → Contains table (a, s) → Contains table (b, t) → IsPrefix a bits → IsPrefix b bits → (a ≡ b) × (s ≡ t)
one_word table free a b s t bits inA inB pa pb =
    let either = one_begins a b bits pa pb in
    elim (cases_order inA.0 inB.0) [
      | inl same ↦
          let other : get_or table inA.0 (a, s) ≡ (b, t) =
          get_or_default table inA.0 (a, s) (b, t) inA.1 ∙ ap (λ k. get_or table k (b, t)) same ∙ inB.2 in
          let pair : (a, s) ≡ (b, t) = sym inA.2 ∙ other in
          (ap (λ e. e.0) pair, ap (λ e. e.1) pair)
      | inr differ ↦
          let clash : Apart (a, s) (b, t) ⊎ Apart (b, t) (a, s) = elim differ [
            | inl less ↦ inl (entries_apart table free (a, s) (b, t) inA.0 inB.0 less inB.1 inA.2 inB.2)
            | inr more ↦ inr (entries_apart table free (b, t) (a, s) inB.0 inA.0 more inA.1 inB.2 inA.2)
          ] in
          absurd (elim clash [
            | inl apart ↦ elim either [ inl p ↦ apart.0 p | inr q ↦ apart.1 q ]
            | inr apart ↦ elim either [ inl p ↦ apart.1 p | inr q ↦ apart.0 q ]
          ])
    ]
