-- The lines of a script, by the place of its first line feed.
use Rattle.std.proofs.Common.{◌≡◌, ℕ, suc, ◌+◌, ◌-◌, ◌<◌, ◌≤◌, Bool, true, false, cond, eqb, not, List, [], ◌∷◌, ◌++◌}
use Rattle.std.proofs.Common.{Some, None, length, take, drop, get_or, refl, ap, sym, ◌∙◌, arith}
use Rattle.std.specs.List.{position, position_or_len, Contains}
use Rattle.std.proofs.lemmas.Bool.{eqb-true, eq-eqb}
use Rattle.std.proofs.lemmas.List.{drop_more, take-append-drop, take_rest}
use Rattle.std.proofs.lemmas.List.Quantifiers.{position-Some}
use Rattle.std.proofs.lemmas.List.Sums.{fails_before_first}
use Rattle.dev_settings.specs.Lines.{lines_of, unended, with_first, with_byte}
use Rattle.dev_settings.proofs.LineLaws.{with_byte_first, with_byte_unended}
use Rattle.dev_settings.proofs.PlaceLemmas.{position_some, position_none}

-- a byte that ends a line
abbrev pub is_end : ℕ → Bool
is_end byte = eqb byte 10

-- one byte more at the start, which ends a line where b is true
first_step : (byte : ℕ) (bytes : List ℕ) (m n : ℕ) (b : Bool)
    → (m < length bytes → lines_of bytes ≡ with_first (take m bytes) (lines_of (drop (m + 1) bytes)))
    → cond (not b) (1 + m) 0 ≡ n → n < suc (length bytes)
    → cond b (with_first [] (lines_of bytes)) (with_byte byte (lines_of bytes).complete (lines_of bytes).rest)
    ≡ with_first (take n (byte ∷ bytes)) (lines_of (drop (n + 1) (byte ∷ bytes)))
first_step byte bytes m n true before e h = rw (← e)
first_step byte bytes m n false before e h =
    let next : n ≡ suc m = omega arith in
    let after : suc m + 1 ≡ suc (m + 1) = omega arith in
    rw (next, after) (with_byte_first byte _ _ _ (before (omega arith)))

-- the first line ends at the first line feed
pub lines_of_first : (bytes : List ℕ) (n : ℕ) → position_or_len is_end bytes ≡ n → n < length bytes
    → lines_of bytes ≡ with_first (take n bytes) (lines_of (drop (n + 1) bytes))
lines_of_first [] n e h = absurd (omega arith)
lines_of_first (byte ∷ bytes) n e h =
    first_step byte bytes (position_or_len is_end bytes) n (eqb byte 10) (lines_of_first bytes _ refl) e h

none_step : (byte : ℕ) (bytes : List ℕ) (m : ℕ) (b : Bool)
    → (length bytes ≤ m → lines_of bytes ≡ unended bytes) → suc (length bytes) ≤ cond (not b) (1 + m) 0
    → cond b (with_first [] (lines_of bytes)) (with_byte byte (lines_of bytes).complete (lines_of bytes).rest)
    ≡ unended (byte ∷ bytes)
none_step byte bytes m true before h = absurd (omega arith)
none_step byte bytes m false before h = with_byte_unended byte bytes _ (before (omega arith))

-- with no line feed no line is complete
pub lines_of_none : (bytes : List ℕ) → length bytes ≤ position_or_len is_end bytes → lines_of bytes ≡ unended bytes
lines_of_none [] h = refl
lines_of_none (byte ∷ bytes) h = none_step byte bytes (position_or_len is_end bytes) (eqb byte 10) (lines_of_none bytes)
    h

-- what stands where the first line feed is found
pub contains_end : (bytes : List ℕ) (n : ℕ) → position is_end bytes ≡ Some n → Contains bytes 10
contains_end bytes n e =
    let found = position-Some is_end bytes n 10 e in
    (n, found.0, eqb-true (get_or bytes n 10) 10 found.1)

pub contains_no_end : (bytes : List ℕ) → position is_end bytes ≡ None → Contains bytes 10 → ⊥
contains_no_end bytes e has =
    let past = position_none is_end bytes e in
    let fails = fails_before_first is_end bytes has.0 10 (omega (arith, has.1)) in
    let passes = eq-eqb (get_or bytes has.0 10) 10 has.2 in
    cc

-- the line, its line feed and what follows
pub parts_at_end : (bytes : List ℕ) (n : ℕ) → position is_end bytes ≡ Some n
    → bytes ≡ take n bytes ++ 10 ∷ take (length bytes - (n + 1)) (drop (n + 1) bytes)
parts_at_end bytes n e =
    let found = position-Some is_end bytes n 10 e in
    let feed = eqb-true (get_or bytes n 10) 10 found.1 in
    rw (take_rest bytes (n + 1)) (sym (take-append-drop n bytes)
    ∙ ap (λ rest. take n bytes ++ rest) (drop_more bytes n 10 found.0
    ∙ ap (λ byte. byte ∷ drop (n + 1) bytes) feed))

pub lines_at_end : (bytes : List ℕ) (n : ℕ) → position is_end bytes ≡ Some n
    → lines_of bytes ≡ with_first (take n bytes) (lines_of (take (length bytes - (n + 1)) (drop (n + 1) bytes)))
lines_at_end bytes n e =
    let place = position_some is_end bytes n e in
    rw (take_rest bytes (n + 1)) (lines_of_first bytes n place.0 place.1)
