-- The entries of a made frame's directory, read by their rules.
use Rattle.std.proofs.Common.{◌≡◌, ℕ, ◌<◌, ◌≤◌, nat_eq, true, List, [], ◌∷◌, length, take, drop, None, Some, Ok, refl}
use Rattle.std.proofs.Common.{ap, ◌∙◌, arith}
use Rattle.std.specs.Prelude.{nat_le}
use Rattle.std.specs.List.{find}
use Rattle.std.proofs.lemmas.Bool.{le-leb}
use Rattle.byteorder.specs.Endian.{little_bytes}
use Rattle.tiff_dirs.specs.Entries.{Slot, answer_of, entries, entry_of, field_of, field_or_fault, value_fits}
use Rattle.tiff_dirs.specs.Entries.{value_size}
use Rattle.tiff_dirs.specs.Header.{directory_fits, first_directory, has_header, order_of}
use Rattle.tiff_dirs.specs.Kinds.{size_of}
use Rattle.tiff_dirs.specs.Numbers.{number_at}
use Rattle.tiff_dirs.specs.Values.{number_in}
use Rattle.tiff_dirs.specs.declared.Order.TheVariants.{Little}
use Rattle.tag_rules.specs.Tags.{rule_of}
use Rattle.tag_rules.specs.Values.{by_rule, field_at, fractions_at, numbers_at, numbers_in}
use Rattle.tag_rules.specs.declared.tags.Tag.{Tag}
use Rattle.tag_rules.specs.declared.tags.Tag.TheVariants.{BitsPerSample, CfaPattern, CfaRepeatPatternDim, Compression}
use Rattle.tag_rules.specs.declared.tags.Tag.TheVariants.{DngVersion, ImageLength, ImageWidth}
use Rattle.tag_rules.specs.declared.tags.Tag.TheVariants.{PhotometricInterpretation, StripByteCounts, StripOffsets}
use Rattle.tag_rules.specs.declared.tags.Tag.TheVariants.{WhiteLevel}

-- an entry whose value stands in its last four bytes
abbrev slot : (tag kind count place : ℕ) → Slot
slot tag kind count place = record { tag = tag; kind = kind; count = count; place = place }

-- the eleven entries
abbrev pub slots : List Slot
slots =
    slot 256 3 1 18 ∷ slot 257 3 1 30 ∷ slot 258 3 1 42 ∷ slot 259 3 1 54 ∷ slot 262 3 1 66 ∷ slot 273 4 1 78
    ∷ slot 279 4 1 90 ∷ slot 33421 3 2 102 ∷ slot 33422 1 4 114 ∷ slot 50706 1 4 126 ∷ slot 50717 3 1 138 ∷ []

-- a file with such a directory, whose values are these
pub record HasEntries (bytes : List ℕ) (w h bits method count : ℕ) : Type 0 where
  pub order : order_of bytes ≡ Little
  pub header : has_header bytes ≡ true
  pub first : first_directory bytes ≡ 8
  pub fits : directory_fits bytes 8 ≡ true
  pub listed : entries bytes 8 ≡ slots
  pub long : 146 ≤ length bytes
  pub width : take 2 (drop 18 bytes) ≡ little_bytes 2 w
  pub height : take 2 (drop 30 bytes) ≡ little_bytes 2 h
  pub depth : take 2 (drop 42 bytes) ≡ little_bytes 2 bits
  pub compression : take 2 (drop 54 bytes) ≡ little_bytes 2 method
  pub photometric : take 2 (drop 66 bytes) ≡ little_bytes 2 32803
  pub offset : take 4 (drop 78 bytes) ≡ little_bytes 4 146
  pub strip_length : take 4 (drop 90 bytes) ≡ little_bytes 4 count
  pub dims : take 4 (drop 102 bytes) ≡ 2 ∷ 0 ∷ 2 ∷ 0 ∷ []
  pub pattern : take 4 (drop 114 bytes) ≡ 0 ∷ 1 ∷ 1 ∷ 2 ∷ []
  pub version : take 4 (drop 126 bytes) ≡ 1 ∷ 4 ∷ 0 ∷ 0 ∷ []
  pub white : take 2 (drop 138 bytes) ≡ little_bytes 2 4095

-- numbers of 16 and of 32 bits from their bytes
short_back : (x : ℕ) → x < 65536 → number_in Little 3 (little_bytes 2 x) 0 ≡ x
unfolding number_in number_at size_of
short_back x h = omega arith

long_back : (x : ℕ) → x < 4294967296 → number_in Little 4 (little_bytes 4 x) 0 ≡ x
unfolding number_in number_at size_of
long_back x h = omega arith

-- what was found, by its bytes
module _ {bytes : List ℕ} {w h bits method count : ℕ} (e : HasEntries bytes w h bits method count) where
  within : (n : ℕ) → n ≤ 146 → nat_le n (length bytes) ≡ true
  within n h = le-leb n (length bytes) (omega (arith, e.long))

  pub width_is : w < 65536 → numbers_at bytes 8 ImageWidth ≡ Ok (Some (w ∷ []))
  unfolding numbers_at field_at entry_of field_or_fault field_of value_fits value_size size_of numbers_in
  width_is small = let inside =
      within 20 (omega arith) in rw (e.listed, inside, e.width, e.order, short_back w small) refl

  pub height_is : h < 65536 → numbers_at bytes 8 ImageLength ≡ Ok (Some (h ∷ []))
  unfolding numbers_at field_at entry_of field_or_fault field_of value_fits value_size size_of numbers_in
  height_is small = let inside =
      within 32 (omega arith) in rw (e.listed, inside, e.height, e.order, short_back h small) refl

  pub depth_is : bits < 65536 → numbers_at bytes 8 BitsPerSample ≡ Ok (Some (bits ∷ []))
  unfolding numbers_at field_at entry_of field_or_fault field_of value_fits value_size size_of numbers_in
  depth_is small = let inside =
      within 44 (omega arith) in rw (e.listed, inside, e.depth, e.order, short_back bits small) refl

  pub compression_is : method < 65536 → numbers_at bytes 8 Compression ≡ Ok (Some (method ∷ []))
  unfolding numbers_at field_at entry_of field_or_fault field_of value_fits value_size size_of numbers_in
  compression_is small = let inside =
      within 56 (omega arith) in rw (e.listed, inside, e.compression, e.order, short_back method small) refl

  pub photometric_is : numbers_at bytes 8 PhotometricInterpretation ≡ Ok (Some (32803 ∷ []))
  unfolding numbers_at field_at entry_of field_or_fault field_of value_fits value_size size_of numbers_in
  photometric_is = let inside =
      within 68 (omega arith) in rw (e.listed, inside, e.photometric, e.order, short_back 32803 (omega arith)) refl

  pub offset_is : numbers_at bytes 8 StripOffsets ≡ Ok (Some (146 ∷ []))
  unfolding numbers_at field_at entry_of field_or_fault field_of value_fits value_size size_of numbers_in
  offset_is = let inside = within 82 (omega arith) in
      rw (e.listed, inside, e.offset, e.order, long_back 146 (omega arith)) refl

  pub count_is : count < 4294967296 → numbers_at bytes 8 StripByteCounts ≡ Ok (Some (count ∷ []))
  unfolding numbers_at field_at entry_of field_or_fault field_of value_fits value_size size_of numbers_in
  count_is small = let inside =
      within 94 (omega arith) in rw (e.listed, inside, e.strip_length, e.order, long_back count small) refl

  pub dims_are : numbers_at bytes 8 CfaRepeatPatternDim ≡ Ok (Some (2 ∷ 2 ∷ []))
  unfolding numbers_at field_at entry_of field_or_fault field_of value_fits value_size size_of numbers_in number_in
      number_at
  dims_are = let inside = within 106 (omega arith) in rw (e.listed, inside, e.dims, e.order) refl

  pub pattern_is : numbers_at bytes 8 CfaPattern ≡ Ok (Some (0 ∷ 1 ∷ 1 ∷ 2 ∷ []))
  unfolding numbers_at field_at entry_of field_or_fault field_of value_fits value_size size_of numbers_in number_in
      number_at
  pattern_is = let inside = within 118 (omega arith) in rw (e.listed, inside, e.pattern, e.order) refl

  pub version_is : numbers_at bytes 8 DngVersion ≡ Ok (Some (1 ∷ 4 ∷ 0 ∷ 0 ∷ []))
  unfolding numbers_at field_at entry_of field_or_fault field_of value_fits value_size size_of numbers_in number_in
      number_at
  version_is = let inside = within 130 (omega arith) in rw (e.listed, inside, e.version, e.order) refl

  pub white_is : numbers_at bytes 8 WhiteLevel ≡ Ok (Some (4095 ∷ []))
  unfolding numbers_at field_at entry_of field_or_fault field_of value_fits value_size size_of numbers_in
  white_is = let inside = within 140 (omega arith) in
      rw (e.listed, inside, e.white, e.order, short_back 4095 (omega arith)) refl

  -- a tag that the directory hasn't
  pub absent_field : (tag : Tag) → find (λ slot. nat_eq slot.tag (rule_of tag).number) slots ≡ None
      → field_at bytes 8 tag ≡ Ok None
  unfolding field_at entry_of
  absent_field tag none =
      let rule = rule_of tag in
      ap (λ xs. by_rule rule (answer_of bytes (find (λ slot. nat_eq slot.tag rule.number) xs))) e.listed
      ∙ ap (λ found. by_rule rule (answer_of bytes found)) none

  pub absent : (tag : Tag) → find (λ slot. nat_eq slot.tag (rule_of tag).number) slots ≡ None
      → numbers_at bytes 8 tag ≡ Ok None
  unfolding numbers_at
  absent tag none = rw (absent_field tag none) refl

  pub absent_fractions : (tag : Tag) → find (λ slot. nat_eq slot.tag (rule_of tag).number) slots ≡ None
      → fractions_at bytes 8 tag ≡ Ok None
  unfolding fractions_at
  absent_fractions tag none = rw (absent_field tag none) refl
