-- A walk over the lengths of a table, from the shortest, for the code word that begins 16 bits.
use Rattle.std.proofs.Common.{◌≡◌, ℕ, zero, suc, ◌+◌, ◌-◌, ◌*◌, ◌/◌, ◌^◌, ◌<◌, ◌≤◌, Bool, List, [], ◌∷◌, ◌++◌, length}
use Rattle.std.proofs.Common.{take, drop, get_or, refl, sym, ap, ap₂, ◌∙◌, arith, pow_pos, min, Contains, sum, le_trans}
use Rattle.std.proofs.Common.{length-take, length-drop, subst, get_or-take, get_or-drop, drop-drop, div-le_self}
use Rattle.std.proofs.Common.{pow_mono, mul-le-mul, mod-eq_of_lt, ◌%◌}
use Rattle.std.proofs.Math.Nat.{pow-succ', le-div_iff_mul-le}
use Rattle.std.proofs.lemmas.List.{drop_more, drop_all}
use Rattle.std.proofs.lemmas.List.Sums.{sum_by-drop_more}
use Rattle.std.proofs.lemmas.List.Elements.{Contains-append_left, Contains-append_right}
use Rattle.binary_digits.specs.Digits.{bits_of}
use Rattle.ljpeg_huffman.specs.Words.{words_of_length, words_from, code_words, space_from}

length-words : (size code : ℕ) (values : List ℕ) → length (words_of_length size code values) ≡ length values
unfolding words_of_length
length-words size code [] = refl
length-words size code (v ∷ vs) = ap suc (length-words size (suc code) vs)

get_or-words : (size code : ℕ) (values : List ℕ) (j : ℕ) (d : List Bool × ℕ) → j < length values
    → get_or (words_of_length size code values) j d ≡ (bits_of size (code + j), get_or values j 0)
unfolding words_of_length
get_or-words size code [] j d h = absurd (omega arith)
get_or-words size code (v ∷ vs) zero d h = ap (λ k. (bits_of size k, v)) (let e : code ≡ code + 0 = omega arith in e)
get_or-words size code (v ∷ vs) (suc j) d h =
    get_or-words size (suc code) vs j d (omega arith)
    ∙ ap (λ k. (bits_of size k, get_or vs j 0)) (let e : suc code + j ≡ code + suc j = omega arith in e)

Contains-words : (size code : ℕ) (values : List ℕ) (j : ℕ) → j < length values
    → Contains (words_of_length size code values) (bits_of size (code + j), get_or values j 0)
Contains-words size code values j h = (
  j,
  omega (arith, length-words size code values),
  get_or-words size code values j
      (bits_of size (code + j), get_or values j 0) h,
)

pub words_from-cons : (size code c : ℕ) (cs values : List ℕ)
    → words_from size code (c ∷ cs) values ≡ words_of_length size code (take c values) ++ words_from (suc size)
    (2 * (code + c)) cs (drop c values)
unfolding words_from
words_from-cons size code c cs values = refl

pub words_from-nil : (size code : ℕ) (values : List ℕ) → words_from size code [] values ≡ []
unfolding words_from
words_from-nil size code values = refl

space_from-cons : (size c : ℕ) (cs : List ℕ) → space_from size (c ∷ cs) ≡ c * 2 ^ (16 - size) + space_from (suc size) cs
unfolding space_from
space_from-cons size c cs = refl

space_from-nil : (size : ℕ) → space_from size [] ≡ 0
unfolding space_from
space_from-nil size = refl

-- Where a walk stands at a length: the first code word of this length and where its values begin. The words from
-- here on are words of the table, and no shorter word begins the window.
pub record Stands (counts values : List ℕ) (window place first start : ℕ) : Type 0 where
  pub small : first ≤ 2 * window
  pub below : first * 2 ^ (16 - place) ≤ 2 * window
  pub space : first * 2 ^ (16 - place) + 2 * space_from (suc place) (drop place counts) ≡ 2 * space_from 1 counts
  pub total : start + sum (drop place counts) ≡ sum counts
  pub words : (e : List Bool × ℕ) → Contains (words_from (suc place) first (drop place counts) (drop start values)) e
      → Contains (code_words counts values) e

pub stands_at_start : (counts values : List ℕ) (window : ℕ) → Stands counts values window 0 0 0
unfolding code_words
stands_at_start counts values window =
    record { small = omega arith; below = omega arith; space = omega arith; total = omega arith; words = λ e h. h }

module _ (counts values : List ℕ) (window place first start : ℕ) (h : place < length counts)
    (sizes : length counts ≡ 16) (s : Stands counts values window place first start) where
  count_is : drop place counts ≡ get_or counts place 0 ∷ drop (place + 1) counts
  count_is = drop_more counts place 0 h

  place_small : place < 16
  place_small = omega (arith, h, sizes)

  double_unit : 2 ^ (16 - place) ≡ 2 * 2 ^ (15 - place)
  double_unit = ap (λ k. 2 ^ k) (let p = place_small in let e : 16 - place ≡ suc (15 - place) = omega arith in e)
      ∙ pow-succ' 2 (15 - place)

  double_first : first * 2 ^ (16 - place) ≡ 2 * (first * 2 ^ (15 - place))
  double_first = ap (λ u. first * u) double_unit ∙ grind arith

  -- the first code of this length is no more than the window's first bits
  pub first_below : first ≤ window / 2 ^ (15 - place)
  first_below =
      let low : first * 2 ^ (15 - place) ≤ window = omega (arith, s.below, double_first) in
      (le-div_iff_mul-le (pow_pos (15 - place))).1 low

  pub total_is : start + (get_or counts place 0 + sum (drop (place + 1) counts)) ≡ sum counts
  total_is = let t = s.total in omega (arith, t, sum_by-drop_more (λ n. n) counts place 0 h)

  gap_is : 16 - suc place ≡ 15 - place
  gap_is = omega arith

  after_is : suc (suc place) ≡ suc (place + 1)
  after_is = omega arith

  space_is : space_from (suc place) (drop place counts) ≡ get_or counts place 0 * 2 ^ (15 - place) + space_from
      (suc (place + 1)) (drop (place + 1) counts)
  space_is =
      ap (space_from (suc place)) count_is
      ∙ space_from-cons (suc place) (get_or counts place 0) (drop (place + 1) counts)
      ∙ ap₂ (λ g k. get_or counts place 0 * 2 ^ g + space_from k (drop (place + 1) counts)) gap_is after_is

  next_unit : 2 ^ (16 - (place + 1)) ≡ 2 ^ (15 - place)
  next_unit = ap (λ k. 2 ^ k) (let e : 16 - (place + 1) ≡ 15 - place = omega arith in e)

  words_are : words_from (suc place) first (drop place counts) (drop start values) ≡ words_of_length (suc place) first
      (take (get_or counts place 0) (drop start values)) ++ words_from (suc (place + 1))
      (2 * (first + get_or counts place 0)) (drop (place + 1) counts) (drop (start + get_or counts place 0) values)
  words_are =
      ap (λ cs. words_from (suc place) first cs (drop start values)) count_is
      ∙ words_from-cons (suc place) first (get_or counts place 0) (drop (place + 1) counts) (drop start values)
      ∙ ap₂ (λ k vs. words_of_length (suc place) first (take (get_or counts place 0) (drop start values))
      ++ words_from k (2 * (first + get_or counts place 0)) (drop (place + 1) counts) vs) after_is
      (drop-drop (get_or counts place 0) start values)

  next_scaled : 2 * (first + get_or counts place 0) * 2 ^ (16 - (place + 1))
      ≡ 2 * (first * 2 ^ (15 - place)) + 2 * (get_or counts place 0 * 2 ^ (15 - place))
  next_scaled = ap (λ u. 2 * (first + get_or counts place 0) * u) next_unit ∙ grind arith

  pub stands_next : first + get_or counts place 0 ≤ window / 2 ^ (15 - place)
      → Stands counts values window (place + 1) (2 * (first + get_or counts place 0)) (start + get_or counts place 0)
  stands_next more =
      let c = get_or counts place 0 in
      let scaled : (first + c) * 2 ^ (15 - place) ≤ window = (le-div_iff_mul-le (pow_pos (15 - place))).0 more in
      let parts : (first + c) * 2 ^ (15 - place) ≡ first * 2 ^ (15 - place) + c * 2 ^ (15 - place) = grind arith in
      let grown : first + c ≤ window = le_trans more (div-le_self window (2 ^ (15 - place))) in
      record {
        small = omega arith;
        below = omega (arith, next_scaled, parts, scaled);
        space = let s1 = s.space in omega (arith, next_scaled, s1, space_is, double_first);
        total = omega (arith, total_is);
        words = λ e inside. s.words e (subst (λ t. Contains t e) (sym words_are) (Contains-append_right _ _ e inside));
      }

  abbrev pub code : ℕ
  code = window / 2 ^ (15 - place)

  pub stands_found : code < first + get_or counts place 0 → sum counts ≤ length values
      → Contains (code_words counts values)
      (bits_of (place + 1) (window / 2 ^ (16 - (place + 1))), get_or values (start + (code - first)) 0)
  stands_found less room =
      let c = get_or counts place 0 in
      let j = code - first in
      let here = drop start values in
      let low = first_below in
      let inside : j < c = omega arith in
      let total = total_is in
      let size : length (take c here) ≡ min c (length values - start) =
      length-take c here ∙ ap (λ n. min c n) (length-drop start values) in
      let held : j < length (take c here) = omega (arith, size) in
      let word = Contains-words (suc place) first (take c here) j held in
      let code_is : first + j ≡ window / 2 ^ (16 - (place + 1)) =
      (let e : first + j ≡ code = omega arith in e)
      ∙ ap (λ g. window / 2 ^ g) (let e : 15 - place ≡ 16 - (place + 1) = omega arith in e) in
      let value_is : get_or (take c here) j 0 ≡ get_or values (start + j) 0 =
      get_or-take c here j 0 inside ∙ get_or-drop start values j 0 in
      let entry : (bits_of (suc place) (first + j), get_or (take c here) j 0)
      ≡ (bits_of (place + 1) (window / 2 ^ (16 - (place + 1))), get_or values (start + j) 0) =
      ap₂ (λ (w : List Bool) (v : ℕ). (w, v))
      (ap₂ bits_of (let e : suc place ≡ place + 1 = omega arith in e) code_is) value_is in
      let listed = subst (Contains (words_of_length (suc place) first (take c here))) entry word in
      let either = Contains-append_left (words_of_length (suc place) first (take c here))
      (words_from (suc (place + 1)) (2 * (first + c)) (drop (place + 1) counts) (drop (start + c) values))
      (bits_of (place + 1) (window / 2 ^ (16 - (place + 1))), get_or values (start + j) 0) listed in
      s.words _ (subst (λ t. Contains t
      (bits_of (place + 1) (window / 2 ^ (16 - (place + 1))), get_or values (start + j) 0)) (sym words_are) either)

  pub index_below : code < first + get_or counts place 0 → sum counts ≤ length values
      → start + (code - first) < length values
  index_below less room =
      let low = first_below in
      let total = total_is in
      omega arith

-- behind the last length no code word begins the window
pub stands_at_end : (counts values : List ℕ) (window place first start : ℕ) → length counts ≡ 16 → place ≡ 16
    → Stands counts values window place first start → space_from 1 counts ≤ window
stands_at_end counts values window place first start sizes last s =
    let none : drop place counts ≡ [] = drop_all place counts (omega arith) in
    let rest : space_from (suc place) (drop place counts) ≡ 0 =
    ap (space_from (suc place)) none ∙ space_from-nil (suc place) in
    let unit : first * 2 ^ (16 - place) ≡ first = ap (λ p. first * 2 ^ (16 - p)) last ∙ omega arith in
    let s1 = s.space in
    let s2 = s.below in
    omega (arith, s1, s2, rest, unit)

-- the space of one length more
pub space_more : (counts : List ℕ) (place : ℕ) → place < 16 → place < length counts
    → space_from (suc place) (drop place counts) ≡ get_or counts place 0 * 2 ^ (15 - place) + space_from
    (suc (place + 1)) (drop (place + 1) counts)
space_more counts place small h =
    ap (space_from (suc place)) (drop_more counts place 0 h)
    ∙ space_from-cons (suc place) (get_or counts place 0) (drop (place + 1) counts)
    ∙ ap₂ (λ g k. get_or counts place 0 * 2 ^ g + space_from k (drop (place + 1) counts))
    (let e : 16 - suc place ≡ 15 - place = omega arith in e)
    (let e : suc (suc place) ≡ suc (place + 1) = omega arith in e)

-- the space of one length, which is shifted without a loss
pub space_shifted : (count place : ℕ) → count < 2 ^ 8 → ((count * 2 ^ (15 - place)) % 2 ^ 32 ≡ count * 2 ^ (15 - place))
    × (count * 2 ^ (15 - place) ≤ 8355840)
space_shifted count place h =
    let less : 15 - place ≤ 15 = omega arith in
    let unit : 2 ^ (15 - place) ≤ 2 ^ 15 = pow_mono less in
    let few : count ≤ 255 = omega arith in
    let e : count * 2 ^ (15 - place) ≤ 255 * 2 ^ 15 = mul-le-mul few unit in
    (mod-eq_of_lt (omega arith), omega arith)

pub space_all : (counts : List ℕ) (place : ℕ) → length counts ≡ 16 → place ≡ 16
    → space_from (suc place) (drop place counts) ≡ 0
space_all counts place sizes e = rw e (ap (space_from 17) (drop_all 16 counts (omega arith)) ∙ space_from-nil 17)
