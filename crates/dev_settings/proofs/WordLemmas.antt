-- The words of a line, by the place of its first letter and of its first space.
use Rattle.std.proofs.Common.{◌≡◌, ℕ, suc, ◌+◌, ◌<◌, ◌≤◌, Bool, true, false, cond, eqb, not, List, [], ◌∷◌, length}
use Rattle.std.proofs.Common.{take, drop, get_or, refl, ap, sym, ◌∙◌, arith, one-add, ltb, leb, ◌&&◌, ◌*◌, ◌-◌, ◌^◌}
use Rattle.std.proofs.Common.{tests, rules, None, Some, add-zero, length-drop, get_or-drop, subst}
use Rattle.std.specs.List.{position, position_or_len, list_all, slice_split, onto_first, filter}
use Rattle.std.specs.Char.{is_ascii_digit, digit_value}
use Rattle.std.specs.Str.Parse.{AllDigits, digits_value}
use Rattle.std.proofs.lemmas.Bool.{and_parts, leb-true, ltb-true, not-true}
use Rattle.std.proofs.lemmas.Bool.Decides.{nat_tests}
use Rattle.std.proofs.lemmas.Int.Digits.{digits_value-lt, digits_value_more}
use Rattle.std.proofs.lemmas.Str.{digit_value_digit}
use Rattle.std.proofs.lemmas.Str.Parse.{digit_at, digits_value-take-le}
use Rattle.std.proofs.lemmas.List.{drop_all}
use Rattle.std.proofs.lemmas.List.Quantifiers.{position-Some}
use Rattle.dev_settings.proofs.PlaceLemmas.{position_some, position_none}
use Rattle.std.proofs.Math.Nat.{pow-le-pow_right}
use Rattle.dev_settings.specs.Words.{words, is_numeral}

abbrev pub is_space : ℕ → Bool
is_space byte = eqb byte 32

abbrev pub is_letter : ℕ → Bool
is_letter byte = not (eqb byte 32)

-- a space at the start separates nothing
words_space : (byte : ℕ) (line : List ℕ) → eqb byte 32 ≡ true → words (byte ∷ line) ≡ words line
words_space byte line e = rw e

letter_step : (byte : ℕ) (line : List ℕ) (m : ℕ) (b : Bool) → eqb byte 32 ≡ b → words (drop m line) ≡ words line
    → words (drop (cond (not (not b)) (1 + m) 0) (byte ∷ line)) ≡ words (byte ∷ line)
letter_step byte line m true e before = rw (one-add m) (before ∙ sym (words_space byte line e))
letter_step byte line m false e before = refl

-- the spaces at the start separate nothing
pub words_from_letter : (line : List ℕ) → words (drop (position_or_len is_letter line) line) ≡ words line
words_from_letter [] = refl
words_from_letter (byte ∷ line) = letter_step byte line (position_or_len is_letter line) (eqb byte 32) refl
    (words_from_letter line)

-- the further parts of a line, given from the space on that ends its first part
abbrev other_parts : List ℕ → List (List ℕ)
other_parts [] = []
other_parts (byte ∷ line) = slice_split is_space line

parts_step : (byte : ℕ) (line : List ℕ) (m : ℕ) (b : Bool)
    → slice_split is_space line ≡ take m line ∷ other_parts (drop m line)
    → cond b ([] ∷ slice_split is_space line) (onto_first byte (slice_split is_space line))
    ≡ take (cond (not b) (1 + m) 0) (byte ∷ line) ∷ other_parts (drop (cond (not b) (1 + m) 0) (byte ∷ line))
parts_step byte line m true before = refl
parts_step byte line m false before = rw (one-add m, before)

-- the first part ends at the first space
parts_first : (line : List ℕ)
    → slice_split is_space line
    ≡ take (position_or_len is_space line) line ∷ other_parts (drop (position_or_len is_space line) line)
parts_first [] = refl
parts_first (byte ∷ line) = parts_step byte line (position_or_len is_space line) (eqb byte 32) (parts_first line)

stop_step : (byte : ℕ) (line : List ℕ) (m : ℕ) (b : Bool) → eqb byte 32 ≡ b → eqb (get_or (drop m line) 0 32) 32 ≡ true
    → eqb (get_or (drop (cond (not b) (1 + m) 0) (byte ∷ line)) 0 32) 32 ≡ true
stop_step byte line m true e before = e
stop_step byte line m false e before = rw (one-add m) before

-- what follows the first part begins with a space, if with anything
stops_at_space : (line : List ℕ) → eqb (get_or (drop (position_or_len is_space line) line) 0 32) 32 ≡ true
stops_at_space [] = refl
stops_at_space (byte ∷ line) = stop_step byte line (position_or_len is_space line) (eqb byte 32) refl
    (stops_at_space line)

-- a part is a word where it has a byte
abbrev is_word : List ℕ → Bool
is_word part = ltb 0 (length part)

-- a part with a byte is kept
filter_word : (byte : ℕ) (part : List ℕ) (parts : List (List ℕ))
    → filter is_word ((byte ∷ part) ∷ parts) ≡ (byte ∷ part) ∷ filter is_word parts
filter_word byte part parts =
    let kept : is_word (byte ∷ part) ≡ true = search (rules, tests) in
    ap (λ b. cond b ((byte ∷ part) ∷ filter is_word parts) (filter is_word parts)) kept

words_other : (line : List ℕ) → eqb (get_or line 0 32) 32 ≡ true → filter is_word (other_parts line) ≡ words line
words_other [] e = refl
words_other (byte ∷ line) e = sym (words_space byte line e)

-- a line that begins with a letter has a word up to the first space
pub words_from_space : (byte : ℕ) (line : List ℕ) (m : ℕ) → eqb byte 32 ≡ false → position_or_len is_space line ≡ m
    → words (byte ∷ line) ≡ (byte ∷ take m line) ∷ words (drop m line)
words_from_space byte line m e place =
    let stops : eqb (get_or (drop m line) 0 32) 32 ≡ true = rw place at (stops_at_space line) in
    rw (e, parts_first line, place) (filter_word byte (take m line) (other_parts (drop m line))
    ∙ ap (λ rest. (byte ∷ take m line) ∷ rest) (words_other (drop m line) stops))

digit_below_ten : (byte : ℕ) → is_ascii_digit byte ≡ true → digit_value byte < 10
digit_below_ten byte e = grind (arith, nat_tests)

-- each byte that the test passes is a digit below ten
digits_from_test : (word : List ℕ) → list_all is_ascii_digit word ≡ true → AllDigits 10 word
digits_from_test [] e = tt
digits_from_test (byte ∷ word) e =
    let both = and_parts (is_ascii_digit byte) (list_all is_ascii_digit word) e in
    (digit_below_ten byte both.0, digits_from_test word both.1)

-- what the test of a numeral means
pub record IsNumeral (word : List ℕ) : Type 0 where
  pub nonempty : 0 < length word
  pub short : length word ≤ 10
  pub digits : AllDigits 10 word

pub numeral_from_test : (word : List ℕ) → is_numeral word ≡ true → IsNumeral word
numeral_from_test word e =
    let parts = and_parts (ltb 0 (length word) && leb (length word) 10) (list_all is_ascii_digit word) e in
    let lengths = and_parts (ltb 0 (length word)) (leb (length word) 10) parts.0 in
    record {
      nonempty = ltb-true 0 (length word) lengths.0;
      short = leb-true (length word) 10 lengths.1;
      digits = digits_from_test word parts.1;
    }

-- the number of a prefix of a numeral fits 64 bits
pub value_fits : (word : List ℕ) (i : ℕ) → IsNumeral word → digits_value 10 (take i word) < 2 ^ 64
value_fits word i n =
    let prefix = digits_value-take-le 10 word i (omega arith) in
    let whole = digits_value-lt 10 word n.digits in
    let most : 10 ^ length word ≤ 10 ^ 10 = pow-le-pow_right {n = 10} (omega arith) n.short in
    omega arith

-- the value of one digit more
pub value_step : (word : List ℕ) (i : ℕ) → IsNumeral word → i < length word
    → (48 ≤ get_or word i 0)
    × (digits_value 10 (take i word) * 10 + (get_or word i 0 - 48) ≡ digits_value 10 (take (i + 1) word))
value_step word i n h =
    let range = digit_at word i n.digits h in
    let digit = digit_value_digit (get_or word i 0) range in
    let more = digits_value_more 10 word i h in
    (range.0, omega arith)

-- a line with no letter has no word
pub words_none : (line : List ℕ) → position is_letter line ≡ None → words line ≡ []
words_none line e =
    let past = position_none is_letter line e in
    sym (words_from_letter line) ∙ ap words (drop_all (position_or_len is_letter line) line past)

-- the words of a line that begins with a letter
words_of_start : (line : List ℕ) → 0 < length line → is_letter (get_or line 0 0) ≡ true
    → words line ≡ take (position_or_len is_space line) line ∷ words (drop (position_or_len is_space line) line)
words_of_start [] h e = absurd (omega arith)
words_of_start (byte ∷ line) h e =
    let letter : eqb byte 32 ≡ false = not-true (eqb byte 32) e in
    let place : position_or_len is_space (byte ∷ line) ≡ suc (position_or_len is_space line) =
    rw (letter, one-add (position_or_len is_space line)) in
    subst (λ n. words (byte ∷ line) ≡ take n (byte ∷ line) ∷ words (drop n (byte ∷ line))) (sym place)
    (words_from_space byte line (position_or_len is_space line) letter refl)

-- the first word is what stands from the first letter to the space after it, or to the end
pub words_first : (line : List ℕ) (start : ℕ) → position is_letter line ≡ Some start
    → words line
    ≡ take (position_or_len is_space (drop start line)) (drop start line)
    ∷ words (drop (position_or_len is_space (drop start line)) (drop start line))
words_first line start e =
    let place = position_some is_letter line start e in
    let letter = (position-Some is_letter line start 0 e).1 in
    let first : is_letter (get_or (drop start line) 0 0) ≡ true = rw (get_or-drop, add-zero) letter in
    let some : 0 < length (drop start line) = omega (arith, length-drop start line) in
    let whole = words_from_letter line in
    sym (rw place.0 at whole) ∙ words_of_start (drop start line) some first
