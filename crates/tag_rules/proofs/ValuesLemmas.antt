-- How many numbers an entry has, and each of them.
use Rattle.std.proofs.Common.{◌≡◌, ℕ, ◌+◌, ◌<◌, pos, List, [], ◌∷◌, ◌++◌, length, get_or, map, arith}
use Rattle.std.specs.List.{range_with_len}
use Rattle.std.proofs.lemmas.List.FromFn.{length-map-range_with_len, map-range_with_len_more, get_or-map-range_with_len}
use Rattle.tiff_dirs.specs.Entries.{Field}
use Rattle.tiff_dirs.specs.Values.{number_in, rational_in}
use Rattle.tiff_dirs.specs.declared.Order.{Order}
use Rattle.tag_rules.specs.Values.{numbers_in, fractions_in}

pub length_numbers_in : (order : Order) (field : Field) → length (numbers_in order field) ≡ field.count
unfolding numbers_in
length_numbers_in order field = length-map-range_with_len _ 0 field.count

pub length_fractions_in : (order : Order) (field : Field) → length (fractions_in order field) ≡ field.count
unfolding fractions_in
length_fractions_in order field = length-map-range_with_len _ 0 field.count

pub number_at_index : (order : Order) (field : Field) (i : ℕ) → i < field.count
    → get_or (numbers_in order field) i 0 ≡ number_in order field.kind field.value i
unfolding numbers_in
number_at_index order field i within = get_or-map-range_with_len _ 0 field.count i i 0 within (omega arith)

pub fraction_at_index : (order : Order) (field : Field) (i : ℕ) → i < field.count
    → get_or (fractions_in order field) i (pos 0, pos 0) ≡ rational_in order field.kind field.value i
unfolding fractions_in
fraction_at_index order field i within =
    get_or-map-range_with_len _ 0 field.count i i (pos 0, pos 0) within (omega arith)

-- one more number
pub numbers_more : (order : Order) (kind : ℕ) (value : List ℕ) (i : ℕ)
    → map (number_in order kind value) (range_with_len 0 (i + 1))
    ≡ map (number_in order kind value) (range_with_len 0 i) ++ number_in order kind value i ∷ []
numbers_more order kind value i = map-range_with_len_more (number_in order kind value) 0 i i (omega arith)
