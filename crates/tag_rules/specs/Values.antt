-- What reading a tag by its rule answers. The refusals are this project's own.
use Rattle.std.specs.Prelude.{ℕ, nat_le, not, ◌&&◌, if◌then◌else◌, ℤ, List, map, slice_index, Option, None, Some}
use Rattle.std.specs.Prelude.{Result, Ok, Err, ok_or, unwrap_or}
use Rattle.std.specs.List.{range_with_len}
use Rattle.std.specs.Option.{option_map}
use Rattle.text_line.specs.Chain.{and_then}
use Rattle.tiff_dirs.specs.Entries.{Field, entry_of}
use Rattle.tiff_dirs.specs.Header.{first_directory, order_of}
use Rattle.tiff_dirs.specs.Values.{number_in, rational_in}
use Rattle.tiff_dirs.specs.declared.EntryFault.{EntryFault}
use Rattle.tiff_dirs.specs.declared.EntryFault.TheVariants.{BadEntry as BadEntryOfFile, FloatTag as FloatTagOfFile}
use Rattle.tiff_dirs.specs.declared.Order.{Order}
use Rattle.tag_rules.specs.Tags.{allows, rule_of}
use Rattle.tag_rules.specs.declared.faults.FrameFault.{FrameFault}
use Rattle.tag_rules.specs.declared.faults.FrameFault.TheVariants.{BadEntry, FloatTag}
use Rattle.tag_rules.specs.declared.tags.Home.{Home}
use Rattle.tag_rules.specs.declared.tags.Home.TheVariants.{Main, Raw}
use Rattle.tag_rules.specs.declared.tags.Rule.{Rule}
use Rattle.tag_rules.specs.declared.tags.Tag.{Tag}

-- a file, and the offset of the raw image's directory
pub record Dirs : Type 0 where
  pub bytes : List ℕ
  pub raw : ℕ

-- the offset of the directory in which a tag is looked for
abbrev pub home_in : Dirs → Home → ℕ
home_in dirs Main = first_directory dirs.bytes
home_in dirs Raw = dirs.raw

-- an entry of one of the rule's types, with as many numbers as the rule allows
abbrev pub allowed : Rule → Field → Result (Option Field) FrameFault
allowed rule field =
    if not (allows rule.kinds field.kind) then Err (BadEntry rule.number)
    else (if nat_le rule.fewest field.count && nat_le field.count rule.most
    then Ok (Some field) else Err rule.miscounted)

-- what a rule makes of what was found
abbrev pub by_rule : Rule → Result (Option Field) EntryFault → Result (Option Field) FrameFault
by_rule rule (Ok None) = Ok None
by_rule rule (Ok (Some field)) = allowed rule field
by_rule rule (Err (FloatTagOfFile tag)) = Err (FloatTag tag)
by_rule rule (Err (BadEntryOfFile tag)) = Err (BadEntry tag)

-- the entry of a tag in the directory at an offset, by the tag's rule, if there is one
unfoldable pub field_at : List ℕ → ℕ → Tag → Result (Option Field) FrameFault
field_at bytes at tag = by_rule (rule_of tag) (entry_of bytes at (rule_of tag).number)

-- the numbers of an entry of whole numbers
unfoldable pub numbers_in : Order → Field → List ℕ
numbers_in order field = map (number_in order field.kind field.value) (range_with_len 0 field.count)

-- the numbers of an entry, each as numerator and denominator
unfoldable pub fractions_in : Order → Field → List (ℤ × ℤ)
fractions_in order field = map (rational_in order field.kind field.value) (range_with_len 0 field.count)

-- the whole numbers under a tag in the directory at an offset
unfoldable pub numbers_at : List ℕ → ℕ → Tag → Result (Option (List ℕ)) FrameFault
numbers_at bytes at tag =
    and_then (field_at bytes at tag) (λ found. Ok (option_map (numbers_in (order_of bytes)) found))

-- the whole numbers under a tag, in the tag's own directory
unfoldable pub numbers_of : Dirs → Tag → Result (Option (List ℕ)) FrameFault
numbers_of dirs tag = numbers_at dirs.bytes (home_in dirs (rule_of tag).home) tag

-- the first of them
unfoldable pub number_of : Dirs → Tag → Result (Option ℕ) FrameFault
number_of dirs tag = and_then (numbers_of dirs tag) (λ found. Ok (option_map (λ xs. slice_index xs 0) found))

-- the number of a tag that has to be there
unfoldable pub required_number_of : Dirs → Tag → Result ℕ FrameFault
required_number_of dirs tag =
    and_then (number_of dirs tag) (λ found. ok_or found (BadEntry (rule_of tag).number))

-- the numbers of a tag that has to be there
unfoldable pub required_numbers_of : Dirs → Tag → Result (List ℕ) FrameFault
required_numbers_of dirs tag =
    and_then (numbers_of dirs tag) (λ found. ok_or found (BadEntry (rule_of tag).number))

-- the number of a tag, or its default
unfoldable pub number_or : Dirs → Tag → ℕ → Result ℕ FrameFault
number_or dirs tag default = and_then (number_of dirs tag) (λ found. Ok (unwrap_or found default))

-- the fractions under a tag in the directory at an offset
unfoldable pub fractions_at : List ℕ → ℕ → Tag → Result (Option (List (ℤ × ℤ))) FrameFault
fractions_at bytes at tag =
    and_then (field_at bytes at tag) (λ found. Ok (option_map (fractions_in (order_of bytes)) found))

-- the fractions under a tag, in the tag's own directory
unfoldable pub fractions_of : Dirs → Tag → Result (Option (List (ℤ × ℤ))) FrameFault
fractions_of dirs tag = fractions_at dirs.bytes (home_in dirs (rule_of tag).home) tag
