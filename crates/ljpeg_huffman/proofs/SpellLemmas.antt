-- Lists of differences that bits spell.
use Rattle.std.proofs.Common.{◌≡◌, ℕ, suc, ◌<◌, Bool, List, [], ◌∷◌, ◌++◌, length, refl, sym, ap, ap₂, ◌∙◌, subst}
use Rattle.std.proofs.Common.{arith, append_assoc, append-nil, ℤ, ◌^◌}
use Rattle.binary_digits.specs.Digits.{bits_of}
use Rattle.ljpeg_huffman.specs.Words.{Table, IsPrefixFree}
use Rattle.ljpeg_huffman.specs.Differences.{further_bits, difference, SpellsOne, Spells}
use Rattle.binary_digits.proofs.DigitLemmas.{length-bits_of, same_number, append_same_size}
use Rattle.ljpeg_huffman.proofs.OrderLemmas.{one_word}

-- one more difference is spelled behind a list
pub Spells-push : (values : List ℤ) (tables : ℕ → Table) (bits more : List Bool) (value : ℤ) → Spells tables bits values
    → SpellsOne (tables (length values)) more value → Spells tables (bits ++ more) (values ++ value ∷ [])
Spells-push [] tables bits more value s one = (more, [], ap (λ x. x ++ more) s ∙ sym (append-nil more), one, refl)
Spells-push (v ∷ values) tables bits more value s one = (
  s.0,
  s.1 ++ more,
  ap (λ x. x ++ more) s.2 ∙ append_assoc s.0 s.1 more,
  s.3,
  Spells-push values
      (λ place. tables (suc place)) s.1 more value s.4 one,
)

-- of the same bits one prefix spells one difference, and what follows it is the same
pub one_difference : (table : Table) → IsPrefixFree table → (a b x y : List Bool) (m n : ℤ) → SpellsOne table a m
    → SpellsOne table b n → a ++ x ≡ b ++ y → (a ≡ b) × (m ≡ n) × (x ≡ y)
one_difference table free a b x y m n s t e =
    let fs = bits_of (further_bits s.category) s.extra in
    let ft = bits_of (further_bits t.category) t.extra in
    let prefix : a ++ x ≡ s.word ++ (fs ++ x) = ap (λ z. z ++ x) s.spelled ∙ append_assoc s.word fs x in
    let other : a ++ x ≡ t.word ++ (ft ++ y) = e ∙ ap (λ z. z ++ y) t.spelled ∙ append_assoc t.word ft y in
    let same = one_word table free s.word t.word s.category t.category (a ++ x) s.listed t.listed (fs ++ x, prefix)
    (ft ++ y, other) in
    let behind = append_same_size s.word t.word (fs ++ x) (ft ++ y) (sym prefix ∙ other) (ap length same.0) in
    let sizes : length fs ≡ length ft = length-bits_of (further_bits s.category) s.extra ∙ ap further_bits same.1
    ∙ sym (length-bits_of (further_bits t.category) t.extra) in
    let tails = append_same_size fs ft x y behind.1 sizes in
    let within : t.extra < 2 ^ further_bits s.category =
    subst (λ k. t.extra < 2 ^ further_bits k) (sym same.1) t.extra_fits in
    let extra : s.extra ≡ t.extra =
    same_number (further_bits s.category) s.extra t.extra s.extra_fits within
    (tails.0 ∙ ap (λ k. bits_of (further_bits k) t.extra) (sym same.1)) in (
      s.spelled ∙ ap₂ (λ w f. w ++ f) same.0 tails.0 ∙ sym t.spelled,
      s.stands_for ∙ ap₂ difference same.1 extra
          ∙ sym t.stands_for,
      tails.1,
    )

-- Bits spell one list of so many differences at most, whatever follows.
pub one_list : (m n : List ℤ) (tables : ℕ → Table) → ((place : ℕ) → IsPrefixFree (tables place)) → (a b x y : List Bool)
    → Spells tables a m → Spells tables b n → length m ≡ length n → a ++ x ≡ b ++ y → (a ≡ b) × (m ≡ n)
one_list [] [] tables free a b x y s t size e = (s ∙ sym t, refl)
one_list [] (v ∷ n) tables free a b x y s t size e = absurd (omega arith)
one_list (u ∷ m) [] tables free a b x y s t size e = absurd (omega arith)
one_list (u ∷ m) (v ∷ n) tables free a b x y s t size e =
    let prefix : a ++ x ≡ s.0 ++ (s.1 ++ x) = ap (λ z. z ++ x) s.2 ∙ append_assoc s.0 s.1 x in
    let other : b ++ y ≡ t.0 ++ (t.1 ++ y) = ap (λ z. z ++ y) t.2 ∙ append_assoc t.0 t.1 y in
    let first = one_difference (tables 0) (free 0) s.0 t.0 (s.1 ++ x) (t.1 ++ y) u v s.3 t.3 (sym prefix ∙ e ∙ other) in
    let rest = one_list m n (λ place. tables (suc place)) (λ place. free (suc place)) s.1 t.1 x y s.4 t.4
    (omega arith) first.2 in
    (s.2 ∙ ap₂ (λ w f. w ++ f) first.0 rest.0 ∙ sym t.2, ap₂ (λ p q. p ∷ q) first.1 rest.1)
