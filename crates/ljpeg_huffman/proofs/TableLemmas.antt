-- What makes a table, and which fault comes first.
use Rattle.std.proofs.Common.{IfNone, le_trans, Option, ◌≡◌, ℕ, suc, ◌+◌, ◌*◌, ◌^◌, ◌<◌, ◌≤◌, Bool, false, cond, ltb}
use Rattle.std.proofs.Common.{eqb, List, [], ◌∷◌, ◌++◌, length, take, drop, replicate, refl, sym, ap, ap₂, ◌∙◌, arith}
use Rattle.std.proofs.Common.{sum, length-append, length-drop, All, Some, None, find, nat_lt, option_map, unwrap_or}
use Rattle.std.proofs.Common.{eq-eqb, ne_eqb, lt-ltb, le-ltb, ltb-false, inl, inr}
use Rattle.std.proofs.lemmas.List.{take-append-le, drop-append-le}
use Rattle.std.proofs.lemmas.List.Sums.{sum_by-cons}
use Rattle.std.proofs.lemmas.List.Elements.{All-nil, All-cons, All-append, All-replicate, All-weaker}
use Rattle.std.proofs.lemmas.Bool.{cond-true, cond-false, false≢true, cases_Bool}
use Rattle.ljpeg_huffman.specs.declared.table.TableFault.TheVariants.{Empty, TooMany, Category, Overfull}
use Rattle.ljpeg_huffman.specs.Words.{words_of_length, words_from, code_words, space_from, table_fault, IsPrefixFree}
use Rattle.ljpeg_huffman.specs.inner.Tables.{high_end, IsTable}
use Rattle.ljpeg_huffman.proofs.WalkLemmas.{words_from-cons, words_from-nil}
use Rattle.ljpeg_huffman.proofs.OrderLemmas.{Ascends-code_words, prefix_free_from_order, LiesWithin, All-within}

pub fault_empty : (counts values : List ℕ) → sum counts ≡ 0 → Some Empty ≡ table_fault counts values
unfolding table_fault
fault_empty counts values h = sym (cond-true _ _ _ (eq-eqb (sum counts) 0 h))

pub fault_many : (counts values : List ℕ) → 256 < sum counts → Some TooMany ≡ table_fault counts values
unfolding table_fault
fault_many counts values h =
    sym (cond-false _ _ _ (ne_eqb (sum counts) 0 (λ e. absurd (omega arith))) ∙ cond-true _ _ _
    (lt-ltb 256 (sum counts) h))

-- past the first two refusals
later : (counts values : List ℕ) → 0 < sum counts → sum counts ≤ 256
    → table_fault counts values ≡ unwrap_or (option_map (λ v. Some (Category v)) (find (nat_lt 16) values))
    (cond (ltb (2 ^ 16) (space_from 1 counts)) (Some Overfull) None)
unfolding table_fault
later counts values some few = cond-false _ _ _ (ne_eqb (sum counts) 0 (λ e. absurd (omega arith)))
    ∙ cond-false _ _ _ (le-ltb 256 (sum counts) few)

pub fault_category : (counts values : List ℕ) (v : ℕ) → 0 < sum counts → sum counts ≤ 256
    → find (nat_lt 16) values ≡ Some v → Some (Category v) ≡ table_fault counts values
fault_category counts values v some few found = sym (later counts values some few ∙ rw found refl)

pub fault_overfull : (counts values : List ℕ) → 0 < sum counts → sum counts ≤ 256 → find (nat_lt 16) values ≡ None
    → 2 ^ 16 < space_from 1 counts → Some Overfull ≡ table_fault counts values
fault_overfull counts values some few none over =
    sym (later counts values some few ∙ rw none (cond-true _ _ _ (lt-ltb (2 ^ 16) (space_from 1 counts) over)))

pub fault_none : (counts values : List ℕ) → 0 < sum counts → sum counts ≤ 256 → find (nat_lt 16) values ≡ None
    → space_from 1 counts ≤ 2 ^ 16 → None ≡ table_fault counts values
fault_none counts values some few none fits =
    sym (later counts values some few ∙ rw none (cond-false _ _ _ (le-ltb (2 ^ 16) (space_from 1 counts) fits)))

categories_known : (values : List ℕ) → find (nat_lt 16) values ≡ None → All (λ v. v ≤ 16) values
categories_known [] e = All-nil (λ v. v ≤ 16)
categories_known (v ∷ vs) e =
    elim (cases_Bool (nat_lt 16 v)) [
      | inl t ↦ let found : Some v ≡ None = sym (cond-true _ _ _ t) ∙ e in absurd (cc)
      | inr f ↦ All-cons (λ v. v ≤ 16) v vs (ltb-false 16 v f) (categories_known vs (sym (cond-false _ _ _ f) ∙ e))
    ]

-- what stands behind the values changes no code word
words_from-padded : (size code : ℕ) (counts values pad : List ℕ) → sum counts ≤ length values
    → words_from size code counts (values ++ pad) ≡ words_from size code counts values
words_from-padded size code [] values pad h =
    words_from-nil size code (values ++ pad) ∙ sym (words_from-nil size code values)
words_from-padded size code (c ∷ cs) values pad h =
    let total : c + sum cs ≤ length values = omega (arith, sum_by-cons (λ n. n) c cs) in
    let prefix : take c (values ++ pad) ≡ take c values = take-append-le c values pad (omega arith) in
    let suffix : drop c (values ++ pad) ≡ drop c values ++ pad = drop-append-le c values pad (omega arith) in
    let rest : words_from (suc size) (2 * (code + c)) cs (drop c values ++ pad) ≡ words_from (suc size)
    (2 * (code + c)) cs (drop c values) =
    words_from-padded (suc size) (2 * (code + c)) cs (drop c values) pad (omega (arith, length-drop c values)) in
    words_from-cons size code c cs (values ++ pad)
    ∙ ap₂ (λ x y. words_of_length size code x ++ y) prefix
    (ap (words_from (suc size) (2 * (code + c)) cs) suffix ∙ rest) ∙ sym (words_from-cons size code c cs values)

pub code_words-padded : (counts values padded : List ℕ) (n : ℕ) → padded ≡ values ++ replicate n 0
    → sum counts ≤ length values → code_words counts padded ≡ code_words counts values
unfolding code_words
code_words-padded counts values padded n e h =
    ap (words_from 1 0 counts) e ∙ words_from-padded 1 0 counts values (replicate n 0) h

pub IsTable-padded : (counts values padded : List ℕ) (n : ℕ) → padded ≡ values ++ replicate n 0 → length counts ≡ 16
    → sum counts ≤ length values → find (nat_lt 16) values ≡ None → space_from 1 counts ≤ 2 ^ 16 → IsTable counts padded
IsTable-padded counts values padded n e sizes h none fits =
    record {
      lengths = sizes;
      total = omega (arith, ap length e ∙ length-append values (replicate n 0));
      fits = fits;
      categories = rw e (All-append (λ v. v ≤ 16) values (replicate n 0) (categories_known values none)
          (All-replicate (λ v. v ≤ 16) n 0 (omega arith)));
    }

pub prefix_free_table : (counts values : List ℕ) → length counts ≡ 16 → space_from 1 counts ≤ 2 ^ 16
    → IsPrefixFree (code_words counts values)
prefix_free_table counts values sizes fits =
    prefix_free_from_order (space_from 1 counts) (code_words counts values) 0
    (Ascends-code_words counts values sizes fits)

-- values that a test did not find empty
pub some_of : (values : List ℕ) (total : ℕ) {b : Bool} → length values ≡ total → b ≡ eqb (length values) 0 → b ≡ false
    → 0 < total
some_of [] total size test failed = absurd (false≢true (sym failed ∙ test))
some_of (v ∷ vs) total size test failed = omega arith

pub sizes_table : (counts values : List ℕ) → length counts ≡ 16 → space_from 1 counts ≤ 2 ^ 16
    → All (λ entry. length entry.0 ≤ 16) (code_words counts values)
sizes_table counts values sizes fits =
    All-weaker (LiesWithin 0 (space_from 1 counts)) (λ entry. length entry.0 ≤ 16) (λ e h. h.2)
    (code_words counts values)
    (All-within (space_from 1 counts) (code_words counts values) 0 (Ascends-code_words counts values sizes fits))

-- a window above all code words
pub below_table : (counts values : List ℕ) (window : ℕ) → length counts ≡ 16 → space_from 1 counts ≤ 2 ^ 16
    → space_from 1 counts ≤ window → All (λ entry. high_end entry.0 ≤ window) (code_words counts values)
below_table counts values window sizes fits over =
    All-weaker (LiesWithin 0 (space_from 1 counts)) (λ entry. high_end entry.0 ≤ window) (λ e h. le_trans h.1 over)
    (code_words counts values)
    (All-within (space_from 1 counts) (code_words counts values) 0 (Ascends-code_words counts values sizes fits))

pub none_weaker : {X P Q : Type 0} (o : Option X) → (P → Q) → IfNone o P → IfNone o Q
none_weaker None f h = f h
none_weaker (Some x) f h = h
