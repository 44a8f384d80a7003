-- Where the numbers of a value stand in its bytes.
use Rattle.std.proofs.Common.{◌≡◌, ℕ, ◌+◌, ◌*◌, ◌<◌, ◌≤◌, IsTrue, List, drop, slice_index, ◌⊎◌, inl, inr, refl, arith}
use Rattle.std.proofs.lemmas.List.{get_or-drop}
use Rattle.std.proofs.lemmas.Bool.Decides.{nat_tests}
use Rattle.std.proofs.Math.Nat.{mul-le-mul_right}
use Rattle.tiff_dirs.specs.declared.Order.{Order}
use Rattle.tiff_dirs.specs.declared.Order.TheVariants.{Big, Little}
use Rattle.tiff_dirs.specs.Kinds.{is_whole, size_of}
use Rattle.tiff_dirs.specs.Numbers.{long_at, number_at, short_at}
use Rattle.tiff_dirs.specs.Values.{number_in}

-- a value of a type whose numbers take a known size has room for each
pub value_room : (kind count size i len : ℕ) → size_of kind ≡ size → i < count → count * size_of kind ≤ len
    → size * i + size ≤ len
value_room kind count size i len e within room =
    let all : count * size ≤ len = rw e at room in
    let h : (i + 1) * size ≤ count * size = mul-le-mul_right size (omega arith) in
    omega (arith, h)

pub size_of-byte : (kind : ℕ) → kind ≡ 1 → size_of kind ≡ 1
unfolding size_of
size_of-byte kind e = rw e refl

pub size_of-short : (kind : ℕ) → kind ≡ 3 → size_of kind ≡ 2
unfolding size_of
size_of-short kind e = rw e refl

pub size_of-rational : (kind : ℕ) → kind ≡ 5 → size_of kind ≡ 8
unfolding size_of
size_of-rational kind e = rw e refl

pub size_of-sshort : (kind : ℕ) → kind ≡ 8 → size_of kind ≡ 2
unfolding size_of
size_of-sshort kind e = rw e refl

pub size_of-slong : (kind : ℕ) → kind ≡ 9 → size_of kind ≡ 4
unfolding size_of
size_of-slong kind e = rw e refl

pub size_of-srational : (kind : ℕ) → kind ≡ 10 → size_of kind ≡ 8
unfolding size_of
size_of-srational kind e = rw e refl

-- LONG and IFD are left of the whole types
whole_left : (kind : ℕ) → IsTrue (is_whole kind) → (kind ≡ 1 → ⊥) → (kind ≡ 3 → ⊥) → (kind ≡ 4) ⊎ (kind ≡ 13)
whole_left kind whole no_byte no_short = grind (arith, nat_tests)

pub size_of-long : (kind : ℕ) → IsTrue (is_whole kind) → (kind ≡ 1 → ⊥) → (kind ≡ 3 → ⊥) → size_of kind ≡ 4
unfolding size_of
size_of-long kind whole no_byte no_short =
    elim (whole_left kind whole no_byte no_short) [ inl long ↦ rw long refl | inr ifd ↦ rw ifd refl ]

-- the first byte from a place on
first_byte : (bytes : List ℕ) (place : ℕ) → slice_index (drop place bytes) 0 ≡ slice_index bytes place
first_byte bytes place =
    let here : place + 0 ≡ place = omega arith in
    rw here at (get_or-drop place bytes 0 0)

-- a byte is a number of itself in either order
pub number_at-byte : (order : Order) (bytes : List ℕ) (place : ℕ)
    → number_at order 1 bytes place ≡ slice_index bytes place
unfolding number_at
number_at-byte Little bytes place = omega (arith, first_byte bytes place)
number_at-byte Big bytes place = omega (arith, first_byte bytes place)

-- number i of a value, by its type
pub number_in-byte : (order : Order) (kind : ℕ) (value : List ℕ) (i : ℕ) → size_of kind ≡ 1
    → number_in order kind value i ≡ slice_index value i
unfolding number_in
number_in-byte order kind value i e =
    let one : 1 * i ≡ i = omega arith in
    rw (e, one) (number_at-byte order value i)

pub number_in-short : (order : Order) (kind : ℕ) (value : List ℕ) (i : ℕ) → size_of kind ≡ 2
    → number_in order kind value i ≡ short_at order value (2 * i)
unfolding number_in
number_in-short order kind value i e = rw e refl

pub number_in-long : (order : Order) (kind : ℕ) (value : List ℕ) (i : ℕ) → size_of kind ≡ 4
    → number_in order kind value i ≡ long_at order value (4 * i)
unfolding number_in
number_in-long order kind value i e = rw e refl
