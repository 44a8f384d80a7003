-- A file of directories and data (TIFF 6.0, section 2, "Image File Header" and "Image File Directory").
use Rattle.std.specs.Prelude.{ℕ, ◌+◌, ◌-◌, ◌*◌, nat_le, if◌then◌else◌, List, [], ◌∷◌, ◌++◌, length, replicate, sum_by}
use Rattle.std.specs.List.{flat_map}
use Rattle.tiff_dirs.specs.declared.Order.{Order}
use Rattle.tiff_dirs.specs.declared.Order.TheVariants.{Big, Little}
use Rattle.tiff_write.specs.declared.field.Field.{Field}
use Rattle.tiff_write.specs.declared.field.Value.{Value}
use Rattle.tiff_write.specs.declared.file.Layout.{Layout}
use Rattle.tiff_write.specs.Fields.{number_bytes, value_bytes, value_size}

-- `II` or `MM`, 42, and the offset of directory 0, which is 8
unfoldable pub header_bytes : Order → List ℕ
header_bytes Little = 0x49 ∷ 0x49 ∷ number_bytes Little 2 42 ++ number_bytes Little 4 8
header_bytes Big = 0x4D ∷ 0x4D ∷ number_bytes Big 2 42 ++ number_bytes Big 4 8

-- how many bytes of an entry's value stand behind the directory: all, where there are more than four
unfoldable pub far_size : Field → ℕ
far_size field = if nat_le (value_size field.value) 4 then 0 else value_size field.value

-- the bytes of a directory with the values behind it: a count, 12 bytes an entry, the next directory's offset
unfoldable pub directory_size : List Field → ℕ
directory_size fields = 6 + 12 * length fields + sum_by far_size fields

-- where the directories begin, the first of them at an offset, one after the other
unfoldable pub directory_offsets : ℕ → List (List Field) → List ℕ
directory_offsets at [] = []
directory_offsets at (fields ∷ more) = at ∷ directory_offsets (at + directory_size fields) more

-- where directories and data stand: directory 0 behind the header, the data behind the last directory's values
abbrev pub layout_of : List (List Field) → Layout
layout_of directories = record {
  directories = directory_offsets 8 directories;
  data_offset = 8 + sum_by directory_size directories;
}

-- the last four bytes of an entry: the offset of a value of more than four bytes, else the value, left-justified
unfoldable pub slot_bytes : Order → Layout → ℕ → Value → List ℕ
slot_bytes order layout at value =
    if nat_le (value_size value) 4 then value_bytes order layout value ++ replicate (4 - value_size value) 0
    else number_bytes order 4 at

-- an entry whose value, where it has more than four bytes, stands at an offset
unfoldable pub entry_bytes : Order → Layout → ℕ → Field → List ℕ
entry_bytes order layout at field =
    number_bytes order 2 field.tag ++ number_bytes order 2 field.kind ++ number_bytes order 4 field.count
    ++ slot_bytes order layout at field.value

-- entries whose long values stand one after the other from an offset on
unfoldable pub entries_bytes : Order → Layout → ℕ → List Field → List ℕ
entries_bytes order layout at [] = []
entries_bytes order layout at (field ∷ more) =
    entry_bytes order layout at field ++ entries_bytes order layout (at + far_size field) more

-- what of an entry's value stands behind the directory
unfoldable pub far_bytes : Order → Layout → Field → List ℕ
far_bytes order layout field = if nat_le (value_size field.value) 4 then [] else value_bytes order layout field.value

-- a directory at an offset, and the long values of its entries
unfoldable pub directory_bytes : Order → Layout → ℕ → List Field → List ℕ
directory_bytes order layout at fields =
    number_bytes order 2 (length fields)
    ++ entries_bytes order layout (at + 6 + 12 * length fields) fields
    ++ number_bytes order 4 0
    ++ flat_map (far_bytes order layout) fields

-- directories one after the other, the first of them at an offset
unfoldable pub directories_bytes : Order → Layout → ℕ → List (List Field) → List ℕ
directories_bytes order layout at [] = []
directories_bytes order layout at (fields ∷ more) =
    directory_bytes order layout at fields ++ directories_bytes order layout (at + directory_size fields) more

-- the whole file
unfoldable pub file_bytes : Order → List (List Field) → List ℕ → List ℕ
file_bytes order directories «data» =
    header_bytes order ++ directories_bytes order (layout_of directories) 8 directories ++ «data»
