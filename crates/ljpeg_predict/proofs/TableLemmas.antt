-- The tables of a scan's components.
use Rattle.std.proofs.Common.{◌≡◌, ℕ, zero, suc, ◌≤◌, Bool, true, false, List, [], ◌∷◌, length, map, take, get_or}
use Rattle.std.proofs.Common.{Option, Some, None, ◌||◌, is_none, unwrap_or, option_copied, IsSome, refl, sym, ap, ap₂}
use Rattle.std.proofs.Common.{◌∙◌, arith, Bor}
use Rattle.std.specs.List.{list_any}
use Rattle.std.proofs.lemmas.List.{length-map, length-take, take-map}
use Rattle.ljpeg_huffman.specs.Words.{Table}
use Rattle.ljpeg_predict.specs.Headers.{chosen_tables, lacks_table, told_table}

pub chosen_count : (tables : List (Option Table)) (numbers : List ℕ) (n : ℕ) → n ≤ length numbers
    → length (chosen_tables tables (take n numbers)) ≡ n
unfolding chosen_tables
chosen_count tables numbers n h = length-map (take n numbers) (λ k. unwrap_or (told_table tables k) [])
    ∙ omega (arith, length-take n numbers)

-- where neither of two tests holds, each fails
neither : (a b : Bool) → (◌||◌ a b) ≡ false → (a ≡ false) × (b ≡ false)
neither false false e = (refl, refl)
neither false true e = absurd (cc)
neither true b e = absurd (cc)

same_told : (o : Option Table) (a b : Table) → is_none o ≡ false → unwrap_or o a ≡ unwrap_or o b
same_told None a b e = absurd (cc)
same_told (Some t) a b e = refl

-- where each table was told, it doesn't matter what stands for one that wasn't
same_tables : (tables : List (Option Table)) (other : Table) (numbers : List ℕ) → lacks_table tables numbers ≡ false
    → map (λ k. unwrap_or (told_table tables k) other) numbers ≡ chosen_tables tables numbers
unfolding lacks_table chosen_tables
same_tables tables other [] e = refl
same_tables tables other (k ∷ numbers) e =
    let t = neither (is_none (told_table tables k)) (list_any (λ n. is_none (told_table tables n)) numbers) e in
    ap₂ (λ x y. x ∷ y) (same_told (told_table tables k) other [] t.0) (same_tables tables other numbers t.1)

tables_are : (tables : List (Option Table)) (a b c d : ℕ) (n : ℕ) (ta tb tc td : Table)
    → lacks_table tables (take n (a ∷ b ∷ c ∷ d ∷ [])) ≡ false → told_table tables a ≡ Some ta
    → tb ≡ unwrap_or (told_table tables b) ta → tc ≡ unwrap_or (told_table tables c) ta
    → td ≡ unwrap_or (told_table tables d) ta
    → take n (ta ∷ tb ∷ tc ∷ td ∷ []) ≡ chosen_tables tables (take n (a ∷ b ∷ c ∷ d ∷ []))
tables_are tables a b c d n ta tb tc td whole ea eb ec ed =
    let g : ℕ → Table = λ k. unwrap_or (told_table tables k) ta in
    let ga : ta ≡ g a = sym (ap (λ o. unwrap_or o ta) ea) in
    let all : (ta ∷ tb ∷ tc ∷ td ∷ []) ≡ map g (a ∷ b ∷ c ∷ d ∷ []) = cc in
    ap (take n) all ∙ take-map g n (a ∷ b ∷ c ∷ d ∷ []) ∙ same_tables tables ta (take n (a ∷ b ∷ c ∷ d ∷ [])) whole

-- the same for a list of four numbers
pub four_tables : (tables : List (Option Table)) (numbers : List ℕ) (n : ℕ) (ta tb tc td : Table) → length numbers ≡ 4
    → lacks_table tables (take n numbers) ≡ false → told_table tables (get_or numbers 0 0) ≡ Some ta
    → tb ≡ unwrap_or (told_table tables (get_or numbers 1 0)) ta
    → tc ≡ unwrap_or (told_table tables (get_or numbers 2 0)) ta
    → td ≡ unwrap_or (told_table tables (get_or numbers 3 0)) ta
    → take n (ta ∷ tb ∷ tc ∷ td ∷ []) ≡ chosen_tables tables (take n numbers)
four_tables tables (a ∷ b ∷ c ∷ d ∷ []) n ta tb tc td long whole ea eb ec ed =
    tables_are tables a b c d n ta tb tc td whole ea eb ec ed
four_tables tables [] n ta tb tc td long whole ea eb ec ed = absurd (omega arith)
four_tables tables (a ∷ []) n ta tb tc td long whole ea eb ec ed = absurd (omega arith)
four_tables tables (a ∷ b ∷ []) n ta tb tc td long whole ea eb ec ed = absurd (omega arith)
four_tables tables (a ∷ b ∷ c ∷ []) n ta tb tc td long whole ea eb ec ed = absurd (omega arith)
four_tables tables (a ∷ b ∷ c ∷ d ∷ e ∷ rest) n ta tb tc td long whole ea eb ec ed = absurd (omega arith)

pub first_told : (tables : List (Option Table)) (numbers : List ℕ) (n : ℕ) → 1 ≤ n → 1 ≤ length numbers
    → lacks_table tables (take n numbers) ≡ false → is_none (told_table tables (get_or numbers 0 0)) ≡ false
unfolding lacks_table
first_told tables numbers zero h k e = absurd (omega arith)
first_told tables [] (suc n) h k e = absurd (omega arith)
first_told tables (a ∷ numbers) (suc n) h k e =
    (neither (is_none (told_table tables a)) (list_any (λ m. is_none (told_table tables m)) (take n numbers)) e).0

pub is_told : {T : Type 0} (r : Option (Bor T)) (o : Option T) → option_copied r ≡ o → is_none o ≡ false → IsSome r
is_told None o e h = absurd (let none : is_none o ≡ true = ap is_none (sym e) in cc)
is_told (Some x) o e h = refl
