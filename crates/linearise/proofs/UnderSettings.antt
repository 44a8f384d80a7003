-- Levels under settings.
use Rattle.std.proofs.Common.{◌≡◌, ℕ, ◌+◌, ◌*◌, ◌%◌, ◌≤◌, ℤ, pos, Option, None, Some, [], ◌∷◌, get_or, sym, ◌∙◌, ap}
use Rattle.std.proofs.Common.{arith}
use Rattle.std.specs.Prelude.{◌-ℤ◌, ◌+ℤ◌}
use Rattle.std.proofs.lemmas.Int.{ints}
use Rattle.std.proofs.lemmas.Nat.{mod_below}
use Rattle.dng_tags.specs.Black.{black_at, greatest_black, span_of}
use Rattle.dng_tags.specs.declared.record.Levels.{Levels}
use Rattle.dng_tags.proofs.SpanLemmas.{greatest_black_is}
use Rattle.linearise.specs.Settings.{under, white_under, with_black}

-- the white level has no part in the greatest black level
pub span_under : (levels : Levels) (rows cols : ℕ) (black white : Option ℕ) (most : ℤ)
    → most ≡ greatest_black (with_black levels black) rows cols
    → pos (256 * white_under levels white) -ℤ most ≡ span_of (under levels black white) rows cols
unfolding span_of greatest_black
span_under levels rows cols None white most is = ap (λ m. pos (256 * white_under levels white) -ℤ m) is
span_under levels rows cols (Some n) white most is = ap (λ m. pos (256 * white_under levels white) -ℤ m) is

-- under a black level of settings each place has that level
pub even_at : (levels : Levels) (n r c : ℕ) → black_at (with_black levels (Some n)) r c ≡ pos (256 * n)
even_at levels n r c =
    let row : r % 1 ≡ 0 = omega (arith, mod_below r 1 (omega arith)) in
    let col : c % 1 ≡ 0 = omega (arith, mod_below c 1 (omega arith)) in
    let place : r % 1 * 1 + c % 1 ≡ 0 = omega arith in
    ap (λ i. get_or (pos (256 * n) ∷ []) i (pos 0) +ℤ get_or [] c (pos 0) +ℤ get_or [] r (pos 0)) place
    ∙ omega (arith, ints)

-- a black level of settings is the greatest one
pub greatest_even : (levels : Levels) (n rows cols : ℕ) → 1 ≤ rows → 1 ≤ cols
    → pos (256 * n) ≡ greatest_black (with_black levels (Some n)) rows cols
greatest_even levels n rows cols some_rows some_cols =
    sym (greatest_black_is (with_black levels (Some n)) rows cols 1 (pos (256 * n)) (omega arith) (omega arith)
    some_cols (record {
      bound = λ r c there col. omega (arith, ints, even_at levels n r c);
      reached = record {
        row = 0;
        col = 0;
        there = record { within = some_rows; place = omega (arith, mod_below 0 1 (omega arith)) };
        within = some_cols;
        same = even_at levels n 0 0;
      };
    }))
