-- Products by digits of raised entries.
use Rattle.std.proofs.Common.{to_z, of_z, w32, w64, ◌≡◌, ℕ, zero, suc, List, [], ◌∷◌, All, ◌+◌, ◌-◌, ◌*◌, ◌/◌, ◌≤◌, min}
use Rattle.std.proofs.Common.{ℤ, pos, negsuc, ◌+ℤ◌, ◌-ℤ◌, ◌*ℤ◌, sym, ◌∙◌, ap, inl, inr, arith}
use Rattle.std.specs.Int.{int_div_euclid}
use Rattle.std.proofs.lemmas.Int.{ints, unsigned_abs-mul}
use Rattle.std.proofs.lemmas.Nat.{mul-le}
use Rattle.std.specs.Prelude.{unsigned_abs, neg_ℤ, ◌≤ℤ◌}
use Rattle.std.proofs.lemmas.Bool.{cases_lt}
use Rattle.std.proofs.Math.Nat.{mul_assoc, mul_comm, add-mul}
use Rattle.std.proofs.Math.IntN.{negsuc-*ℤ-pos}
use Rattle.colour_matrix.specs.declared.matrix_rows.Raised.{Raised}
use Rattle.colour_matrix.specs.declared.matrix_rows.Row.{Row}
use Rattle.colour_matrix.specs.Matrices.{IsEntry, IsForwardEntry, entry_at}
use Rattle.plane_view.specs.Samples.{clipped}
use Rattle.colour_matrix.specs.inner.MatrixRows.{IsRaised, IsRow, AreRows, AreDigits, HaveDigits, product_of}
use Rattle.colour_matrix.specs.declared.matrix_rows.Rows.{Rows}
use Rattle.std.proofs.lemmas.List.Elements.{All-from_recursion}

-- a product by digits
digits_times : (h l v : ℕ) → (h * 16384 + l) * v ≡ 16384 * (h * v) + l * v
digits_times h l v = add-mul (h * 16384) l v ∙ ap (λ n. n + l * v) (ap (λ n. n * v) (mul_comm h 16384)
    ∙ mul_assoc 16384 h v)

-- an entry times a sample, by the digits
times_is : (entry : ℤ) (raised : Raised) (v : ℕ) → IsRaised entry raised
    → entry *ℤ pos v ≡ pos (16384 * (raised.high * v) + raised.low * v) -ℤ pos (16777216 * v)
times_is (pos e) raised v is =
    let sum : e + 16777216 ≡ raised.high * 16384 + raised.low = omega (arith, ints, is.is) in
    let product : e * v + 16777216 * v ≡ 16384 * (raised.high * v) + raised.low * v = sym (add-mul e 16777216 v)
    ∙ ap (λ n. n * v) sum ∙ digits_times raised.high raised.low v in
    let P : ℕ = e * v in
    omega (arith, ints)
times_is (negsuc e) raised v is =
    let sum : suc e + (raised.high * 16384 + raised.low) ≡ 16777216 = omega (arith, ints, is.is) in
    let product : suc e * v + (16384 * (raised.high * v) + raised.low * v) ≡ 16777216 * v =
    ap (λ n. suc e * v + n) (sym (digits_times raised.high raised.low v))
    ∙ sym (add-mul (suc e) (raised.high * 16384 + raised.low) v) ∙ ap (λ n. n * v) sum in
    negsuc-*ℤ-pos e v ∙ (omega (arith, ints))

-- a difference of sums, by the digits
clipped_is : (high low raise : ℕ) → min ((high + low / 16384 - raise) / 4) 65535
    ≡ clipped (int_div_euclid (pos (16384 * high + low) -ℤ pos (16384 * raise)) (pos 65536))
clipped_is high low raise =
    elim (cases_lt (16384 * high + low) (16384 * raise)) [
      | inl below ↦
          let by : ℕ = 16384 * raise - (16384 * high + low) - 1 in
          let is : pos (16384 * high + low) -ℤ pos (16384 * raise) ≡ negsuc by = omega (arith, ints) in
          let none : min ((high + low / 16384 - raise) / 4) 65535 ≡ 0 = omega arith in
          none ∙ ap (λ (z : ℤ). clipped (int_div_euclid z (pos 65536))) (sym is)
      | inr above ↦
          let by : ℕ = 16384 * high + low - 16384 * raise in
          let is : pos (16384 * high + low) -ℤ pos (16384 * raise) ≡ pos by = omega (arith, ints) in
          let same : (high + low / 16384 - raise) / 4 ≡ by / 65536 = omega arith in
          ap (λ n. min n 65535) same ∙ ap (λ (z : ℤ). clipped (int_div_euclid z (pos 65536))) (sym is)
    ]

-- three entries times a pixel, by the digits
pub product_is : (a b c : ℤ) (row : Row) (red green blue : ℕ) → IsRow a b c row
    → min ((row.red.high * red + row.green.high * green + row.blue.high * blue
    + (row.red.low * red + row.green.low * green + row.blue.low * blue + 32768) / 16384 - 1024 * (red + green + blue))
    / 4) 65535 ≡ product_of a b c red green blue
product_is a b c row red green blue is =
    let first = times_is a row.red red is.red in
    let second = times_is b row.green green is.green in
    let third = times_is c row.blue blue is.blue in
    let high : ℕ = row.red.high * red + row.green.high * green + row.blue.high * blue in
    let low : ℕ = row.red.low * red + row.green.low * green + row.blue.low * blue + 32768 in
    let sum : pos (16384 * high + low) -ℤ pos (16384 * (1024 * (red + green + blue))) ≡ a *ℤ pos red +ℤ b *ℤ pos green
    +ℤ c *ℤ pos blue +ℤ pos 32768 = omega (arith, ints) in
    clipped_is high low (1024 * (red + green + blue)) ∙ ap (λ (z : ℤ). clipped (int_div_euclid z (pos 65536))) sum

-- an entry in 32 bits
pub entry_in_32 : (z : ℤ) → IsEntry z → IsEntry (to_z w32 (of_z w32 z))
entry_in_32 z is =
    let low = is.0 in
    let high = is.1 in
    (omega (arith, ints), omega (arith, ints))

-- bounds of a product of an entry in 10000ths and one of a forward matrix
from_abs : (z : ℤ) (n : ℕ) → unsigned_abs z ≤ n → (neg_ℤ (pos n) ≤ℤ z) × (z ≤ℤ pos n)
from_abs (pos a) n h = (omega (arith, ints), omega (arith, ints))
from_abs (negsuc a) n h = (omega (arith, ints), omega (arith, ints))

abs_of_entry : (z : ℤ) → IsForwardEntry z → unsigned_abs z ≤ 1048576
abs_of_entry (pos a) is = let low = is.0 in let high = is.1 in omega (arith, ints)
abs_of_entry (negsuc a) is = let low = is.0 in let high = is.1 in omega (arith, ints)

pub small_term : (w e z : ℤ) → unsigned_abs w ≤ 31339 → IsForwardEntry e → z ≡ w *ℤ e
    → (neg_ℤ (pos 32861323264) ≤ℤ z) × (z ≤ℤ pos 32861323264)
small_term w e z small is product =
    let most : unsigned_abs w * unsigned_abs e ≤ 31339 * 1048576 =
    mul-le (unsigned_abs w) (unsigned_abs e) 31339 1048576 small (abs_of_entry e is) in
    let size : unsigned_abs z ≡ unsigned_abs w * unsigned_abs e = ap unsigned_abs product ∙ unsigned_abs-mul w e in
    from_abs z 32861323264 (omega arith)

-- three rows
pub three_rows : (c : List ℤ) (rows : Rows) → IsRow (entry_at c 0 0) (entry_at c 0 1) (entry_at c 0 2) rows.red
    → IsRow (entry_at c 1 0) (entry_at c 1 1) (entry_at c 1 2) rows.green
    → IsRow (entry_at c 2 0) (entry_at c 2 1) (entry_at c 2 2) rows.blue → AreRows c rows
three_rows c rows red green blue zero below = red
three_rows c rows red green blue (suc zero) below = green
three_rows c rows red green blue (suc (suc zero)) below = blue
three_rows c rows red green blue (suc (suc (suc i))) below = absurd (omega arith)

pub three_digits : (rows : Rows) → AreDigits rows.red → AreDigits rows.green → AreDigits rows.blue → HaveDigits rows
three_digits rows red green blue zero below = red
three_digits rows red green blue (suc zero) below = green
three_digits rows red green blue (suc (suc i)) below = blue

-- an entry of a forward matrix in 32 bits
pub forward_in_32 : (z : ℤ) → IsForwardEntry z → IsForwardEntry (to_z w32 (of_z w32 z))
forward_in_32 z is =
    let low = is.0 in
    let high = is.1 in
    (omega (arith, ints), omega (arith, ints))

-- a sum of three terms in 64 bits
abbrev pub in_64 : ℤ → ℤ
in_64 z = to_z w64 (of_z w64 z)

pub record IsTerm (z : ℤ) : Type 0 where
  pub low : neg_ℤ (pos 32861323264) ≤ℤ z
  pub high : z ≤ℤ pos 32861323264

pub sum_in_64 : (a b c : ℤ) → IsTerm a → IsTerm b → IsTerm c → in_64 (in_64 (in_64 a +ℤ in_64 b) +ℤ in_64 c)
    ≡ a +ℤ b +ℤ c
sum_in_64 a b c is_a is_b is_c =
    let first : in_64 a ≡ a = omega (arith, ints) in
    let second : in_64 b ≡ b = omega (arith, ints) in
    let third : in_64 c ≡ c = omega (arith, ints) in
    let two : in_64 (a +ℤ b) ≡ a +ℤ b = omega (arith, ints) in
    let all : in_64 (a +ℤ b +ℤ c) ≡ a +ℤ b +ℤ c = omega (arith, ints) in
    (λ i. in_64 (in_64 (first i +ℤ second i) +ℤ third i)) ∙ (λ i. in_64 (two i +ℤ c)) ∙ all

pub sum_within : (a b c z : ℤ) → IsTerm a → IsTerm b → IsTerm c → z ≡ a +ℤ b +ℤ c
    → (neg_ℤ (pos 98583969792) ≤ℤ z) × (z ≤ℤ pos 98583969792)
sum_within a b c z is_a is_b is_c is = (omega (arith, ints), omega (arith, ints))

-- nine entries
pub nine_entries : (a b c d e f g h i : ℤ) → IsEntry a → IsEntry b → IsEntry c → IsEntry d → IsEntry e → IsEntry f
    → IsEntry g → IsEntry h → IsEntry i → All IsEntry (a ∷ b ∷ c ∷ d ∷ e ∷ f ∷ g ∷ h ∷ i ∷ [])
nine_entries a b c d e f g h i is_a is_b is_c is_d is_e is_f is_g is_h is_i =
    All-from_recursion IsEntry (a ∷ b ∷ c ∷ d ∷ e ∷ f ∷ g ∷ h ∷ i ∷ [])
    (is_a, (is_b, (is_c, (is_d, (is_e, (is_f, (is_g, (is_h, (is_i, tt)))))))))
