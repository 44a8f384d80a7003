-- Code words that are looked up by the next nine bits.
use Rattle.std.proofs.Common.{◌≡◌, ℕ, zero, suc, ◌+◌, ◌-◌, ◌*◌, ◌/◌, ◌^◌, ◌<◌, ◌≤◌, inl, inr, List, length, get_or, set}
use Rattle.std.proofs.Common.{replicate, Option, Some, None, refl, sym, ap, ◌∙◌, subst, arith, Contains}
use Rattle.std.proofs.Common.{get_or-set_same, get_or-set_other}
use Rattle.std.proofs.lemmas.Nat.{shl-shr, shr-shr}
use Rattle.std.proofs.lemmas.Bool.{cases_eq}
use Rattle.ljpeg_huffman.specs.declared.table.Code.{Code}
use Rattle.binary_digits.specs.Digits.{bits_of}
use Rattle.ljpeg_huffman.specs.Words.{code_words}
use Rattle.ljpeg_huffman.specs.inner.Short.{IsShort}

pub nothing_short : (counts values : List ℕ) (place : ℕ) → IsShort counts values place None
unfolding IsShort
nothing_short counts values place = tt

all_none : (n place : ℕ) → get_or {A = Option Code} (replicate n None) place None ≡ None
all_none zero place = refl
all_none (suc n) zero = refl
all_none (suc n) (suc place) = all_none n place

pub none_short : (counts values : List ℕ) (n place : ℕ)
    → IsShort counts values place (get_or (replicate n None) place None)
none_short counts values n place =
    subst (IsShort counts values place) (sym (all_none n place)) (nothing_short counts values place)

pub more_short : (counts values : List ℕ) (short : List (Option Code)) (place : ℕ) (found : Option Code)
    → place < length short → ((k : ℕ) → IsShort counts values k (get_or short k None))
    → IsShort counts values place found → (k : ℕ) → IsShort counts values k (get_or (set short place found) k None)
more_short counts values short place found inside before here k =
    elim (cases_eq k place) [
      | inl same ↦ subst (λ n. IsShort counts values n (get_or (set short place found) n None)) (sym same)
          (subst (IsShort counts values place) (sym (get_or-set_same short place found None inside)) here)
      | inr apart ↦ subst (IsShort counts values k) (sym (get_or-set_other short place k found None apart)) (before k)
    ]

-- a code word that begins the sixteen bits of a place and zeros
pub found_short : (counts values : List ℕ) (place : ℕ) (code : Code) → code.size ≤ 9 → code.category ≤ 16
    → Contains (code_words counts values) (bits_of code.size (place * 2 ^ 7 / 2 ^ (16 - code.size)), code.category)
    → IsShort counts values place (Some code)
unfolding IsShort
found_short counts values place code small known listed =
    let gap : 16 - code.size ≡ 7 + (9 - code.size) = omega arith in
    let same : place * 2 ^ 7 / 2 ^ (16 - code.size) ≡ place / 2 ^ (9 - code.size) =
    ap (λ k. place * 2 ^ 7 / 2 ^ k) gap ∙ sym (shr-shr (place * 2 ^ 7) 7 (9 - code.size))
    ∙ ap (λ n. n / 2 ^ (9 - code.size)) (shl-shr place 7) in
    (small, known, subst (λ n. Contains (code_words counts values) (bits_of code.size n, code.category)) same listed)

-- what a look-up says of the window
pub short_says : (counts values : List ℕ) (window : ℕ) (code : Code)
    → IsShort counts values (window / 2 ^ 7) (Some code)
    → (code.size ≤ 16) × (code.category ≤ 16) × Contains (code_words counts values)
    (bits_of code.size (window / 2 ^ (16 - code.size)), code.category)
unfolding IsShort
short_says counts values window code h =
    let small = h.0 in
    let gap : 16 - code.size ≡ 7 + (9 - code.size) = omega arith in
    let same : window / 2 ^ 7 / 2 ^ (9 - code.size) ≡ window / 2 ^ (16 - code.size) =
    shr-shr window 7 (9 - code.size) ∙ ap (λ k. window / 2 ^ k) (sym gap) in
    (omega arith, h.1, subst (λ n. Contains (code_words counts values) (bits_of code.size n, code.category)) same h.2)
