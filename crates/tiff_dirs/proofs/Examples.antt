-- The definitions at work on a file of 24 bytes, in both byte orders: an empty directory at 8, and one at 10 with the
-- entry of tag 254, LONG, one number, 1.
use Rattle.std.proofs.Common.{◌≡◌, ℕ, List, [], ◌∷◌, Some, Ok, Err, None, refl}
use Rattle.tiff_dirs.specs.Entries.{entries, entry_of, field_of, field_or_fault, slot_at, value_fits, value_place}
use Rattle.tiff_dirs.specs.Entries.{value_size}
use Rattle.tiff_dirs.specs.Header.{directory_fits, directory_of, entry_count, first_directory, has_header, is_big}
use Rattle.tiff_dirs.specs.Header.{is_little, open_of, order_of}
use Rattle.tiff_dirs.specs.Kinds.{size_of}
use Rattle.tiff_dirs.specs.Numbers.{number_at}
use Rattle.tiff_dirs.specs.Values.{number_in}
use Rattle.tiff_dirs.specs.declared.Order.TheVariants.{Big, Little}
use Rattle.tiff_dirs.specs.declared.TiffFault.TheVariants.{BadDirectory}

abbrev little_file : List ℕ
little_file =
    0x49 ∷ 0x49 ∷ 0x2A ∷ 0 ∷ 8 ∷ 0 ∷ 0 ∷ 0 ∷ 0 ∷ 0 ∷ 1 ∷ 0
    ∷ 0xFE ∷ 0 ∷ 4 ∷ 0 ∷ 1 ∷ 0 ∷ 0 ∷ 0 ∷ 1 ∷ 0 ∷ 0 ∷ 0 ∷ []

abbrev big_file : List ℕ
big_file =
    0x4D ∷ 0x4D ∷ 0 ∷ 0x2A ∷ 0 ∷ 0 ∷ 0 ∷ 8 ∷ 0 ∷ 0 ∷ 0 ∷ 1
    ∷ 0 ∷ 0xFE ∷ 0 ∷ 4 ∷ 0 ∷ 0 ∷ 0 ∷ 1 ∷ 0 ∷ 0 ∷ 0 ∷ 1 ∷ []

little-opens : open_of little_file ≡ Ok little_file
unfolding open_of has_header is_big is_little order_of first_directory directory_fits entry_count number_at
little-opens = refl

little-order : order_of little_file ≡ Little
unfolding order_of is_big
little-order = refl

big-order : order_of big_file ≡ Big
unfolding order_of is_big
big-order = refl

little-no_directory : directory_of little_file 11 ≡ Err (BadDirectory 11)
unfolding directory_of order_of is_big directory_fits entry_count number_at
little-no_directory = refl

little-entry : entry_of little_file 10 254
    ≡ Ok (Some (record { tag = 254; kind = 4; count = 1; value = 1 ∷ 0 ∷ 0 ∷ 0 ∷ [] }))
unfolding entry_of entries field_or_fault field_of value_fits value_size value_place slot_at order_of is_big
    directory_fits entry_count number_at size_of
little-entry = refl

big-entry : entry_of big_file 10 254 ≡ Ok (Some (record { tag = 254; kind = 4; count = 1; value = 0 ∷ 0 ∷ 0 ∷ 1 ∷ [] }))
unfolding entry_of entries field_or_fault field_of value_fits value_size value_place slot_at order_of is_big
    directory_fits entry_count number_at size_of
big-entry = refl

little-absent : entry_of little_file 8 254 ≡ Ok None
unfolding entry_of entries order_of is_big directory_fits entry_count number_at
little-absent = refl

big-number : number_in Big 4 (0 ∷ 0 ∷ 0 ∷ 1 ∷ []) 0 ≡ 1
unfolding number_in number_at size_of
big-number = refl
