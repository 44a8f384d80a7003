-- The digits of samples as they stand in a file.
use Rattle.std.proofs.Common.{◌≡◌, ℕ, ◌+◌, ◌*◌, ◌^◌, ◌<◌, ◌≤◌, Bool, false, cond, eqb, List, ◌++◌, length}
use Rattle.std.proofs.Common.{length-append, length-drop, take, drop, inl, inr, refl, sym, ap, ◌∙◌, subst, arith}
use Rattle.std.proofs.Math.Path.{fun_ext}
use Rattle.std.proofs.lemmas.Bool.{cases_lt}
use Rattle.std.proofs.lemmas.Bool.Decides.{nat_tests}
use Rattle.std.proofs.lemmas.List.{drop_at, take_at, take-append-drop}
use Rattle.tiff_dirs.specs.declared.Order.{Order}
use Rattle.tiff_dirs.specs.declared.Order.TheVariants.{Big, Little}
use Rattle.binary_digits.specs.Digits.{bits_of, number_of}
use Rattle.binary_digits.proofs.DigitLemmas.{bits_of-join, bits_of-number_of, length-bits_of, same_number}
use Rattle.strip_unpack.specs.Samples.{file_order, sample_bits}

-- two bytes exchanged, and no exchange below depth 16
little_pair : (bits : List Bool) → file_order Little 16 bits ≡ drop 8 bits ++ take 8 bits
unfolding file_order
little_pair bits = refl

pub little_less : (depth : ℕ) (bits : List Bool) → depth < 16 → file_order Little depth bits ≡ bits
unfolding file_order
little_less depth bits less =
    let other : eqb depth 16 ≡ false = grind (arith, nat_tests) in
    ap (λ b. cond b (drop 8 bits ++ take 8 bits) bits) other

big_order : (depth : ℕ) (bits : List Bool) → file_order Big depth bits ≡ bits
unfolding file_order
big_order depth bits = refl

-- what the order of a file does to the digits of a sample
record Reorders (f : List Bool → List Bool) (depth : ℕ) : Type 0 where
  size : (bits : List Bool) → length (f bits) ≡ length bits
  back : (bits : List Bool) → length bits ≡ depth → f (f bits) ≡ bits

kept : (f : List Bool → List Bool) (depth : ℕ) → ((bits : List Bool) → f bits ≡ bits) → Reorders f depth
kept f depth same =
    record { size = λ bits. ap length (same bits); back = λ bits long. same (f bits) ∙ same bits }

exchanged : Reorders (λ bits. drop 8 bits ++ take 8 bits) 16
exchanged = record {
  size = λ bits.
      let parts = ap length (take-append-drop 8 bits) in
      omega (arith, length-append (take 8 bits) (drop 8 bits), length-append (drop 8 bits) (take 8 bits));
  back = λ bits long.
      let low : length (drop 8 bits) ≡ 8 = length-drop 8 bits ∙ omega arith in
      rw (drop_at (drop 8 bits) (take 8 bits) 8 low, take_at (drop 8 bits) (take 8 bits) 8 low)
      (take-append-drop 8 bits);
}

little_reorders : (depth : ℕ) → depth ≤ 16 → Reorders (file_order Little depth) depth
unfolding file_order
little_reorders depth most =
    elim (cases_lt depth 16) [
      | inl less ↦ kept (file_order Little depth) depth (λ bits. little_less depth bits less)
      | inr whole ↦
          let P : ℕ → Type 0 = λ d. Reorders (file_order Little d) d in
          let full : 16 ≡ depth = omega arith in
          subst P full exchanged
    ]

reorders : (order : Order) (depth : ℕ) → depth ≤ 16 → Reorders (file_order order depth) depth
reorders Little depth most = little_reorders depth most
reorders Big depth most = kept (file_order Big depth) depth (big_order depth)

pub length-file_order : (order : Order) (depth : ℕ) (bits : List Bool) → depth ≤ 16
    → length (file_order order depth bits) ≡ length bits
length-file_order order depth bits most = let r = reorders order depth most in r.size bits

-- each sample of a depth has so many digits, and two samples that have the same digits are one
pub record IsCode (f : ℕ → List Bool) (depth : ℕ) : Type 0 where
  pub long : (x : ℕ) → length (f x) ≡ depth
  pub same : (x y : ℕ) → x < 2 ^ depth → y < 2 ^ depth → f x ≡ f y → x ≡ y

pub sample_code : (order : Order) (depth : ℕ) → depth ≤ 16 → IsCode (sample_bits order depth) depth
unfolding sample_bits
sample_code order depth most =
    let r = reorders order depth most in
    let f = file_order order depth in
    record {
      long = λ x. r.size (bits_of depth x) ∙ length-bits_of depth x;
      same = λ x y hx hy e.
          let digits : bits_of depth x ≡ bits_of depth y = sym (r.back (bits_of depth x) (length-bits_of depth x))
          ∙ ap f e ∙ r.back (bits_of depth y) (length-bits_of depth y) in
          same_number depth x y hx hy digits;
    }

-- digits are those of the sample that they spell
pub sample_bits-number_of : (order : Order) (depth : ℕ) (bits : List Bool) → depth ≤ 16 → length bits ≡ depth
    → sample_bits order depth (number_of (file_order order depth bits)) ≡ bits
unfolding sample_bits
sample_bits-number_of order depth bits most long =
    let r = reorders order depth most in
    let f = file_order order depth in
    let size : length (f bits) ≡ depth = r.size bits ∙ long in
    let digits : bits_of depth (number_of (f bits)) ≡ f bits =
    ap (λ n. bits_of n (number_of (f bits))) (sym size) ∙ bits_of-number_of (f bits) in
    ap f digits ∙ r.back bits long

own_sample : (order : Order) (depth x : ℕ) → depth < 16 → sample_bits order depth x ≡ bits_of depth x
unfolding sample_bits
own_sample Little depth x less = little_less depth (bits_of depth x) less
own_sample Big depth x less = big_order depth (bits_of depth x)

-- below depth 16 the digits of a sample are its own
pub own_digits : (order : Order) (depth : ℕ) → depth < 16 → sample_bits order depth ≡ bits_of depth
own_digits order depth less = fun_ext (λ x. own_sample order depth x less)

-- the digits of two bytes as those of a number of 16 bits
pub little_digits : (a b : ℕ) → a < 256 → b < 256 → sample_bits Little 16 (b * 256 + a) ≡ bits_of 8 a ++ bits_of 8 b
unfolding sample_bits
little_digits a b ha hb =
    let high = bits_of 8 b in
    let low = bits_of 8 a in
    let size = length-bits_of 8 b in
    ap (file_order Little 16) (bits_of-join 8 8 b a ha)
    ∙ little_pair (high ++ low)
    ∙ rw (drop_at high low 8 size, take_at high low 8 size) refl

pub big_digits : (a b : ℕ) → a < 256 → b < 256 → sample_bits Big 16 (a * 256 + b) ≡ bits_of 8 a ++ bits_of 8 b
unfolding sample_bits
big_digits a b ha hb = big_order 16 (bits_of 16 (a * 256 + b)) ∙ bits_of-join 8 8 a b hb
