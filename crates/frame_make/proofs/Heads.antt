-- The bytes of a made frame's directory, and what looking at its entries finds.
use Rattle.std.proofs.Common.{◌≡◌, ℕ, ◌+◌, true, List, [], ◌∷◌, ◌++◌, length, length-append, refl, arith}
use Rattle.std.specs.Int.{byte_at}
use Rattle.std.specs.Prelude.{nat_le}
use Rattle.std.proofs.lemmas.Bool.{le-leb}
use Rattle.tiff_dirs.specs.Entries.{entries, slot_at, value_place}
use Rattle.tiff_dirs.specs.Header.{directory_fits, entry_count, first_directory, has_header, is_big, is_little}
use Rattle.tiff_dirs.specs.Header.{order_of}
use Rattle.tiff_dirs.specs.Kinds.{size_of}
use Rattle.tiff_dirs.specs.Numbers.{number_at}
use Rattle.tiff_dirs.specs.declared.Order.TheVariants.{Little}
use Rattle.tiff_write.specs.Fields.{value_bytes, value_size}
use Rattle.tiff_write.specs.Files.{directories_bytes, directory_bytes, directory_offsets, directory_size, entries_bytes}
use Rattle.tiff_write.specs.Files.{entry_bytes, far_bytes, far_size, file_bytes, header_bytes, slot_bytes}
use Rattle.frame_make.specs.Made.{fields_of}
use Rattle.frame_make.proofs.Reading.{HasEntries, slots}

-- the header, the count, eleven entries, no next directory
abbrev pub before_strip : (w h bits method count : ℕ) → List ℕ
before_strip w h bits method count =
    0x49 ∷ 0x49 ∷ 42 ∷ 0 ∷ 8 ∷ 0 ∷ 0 ∷ 0 ∷ 11 ∷ 0
    ∷ 0 ∷ 1 ∷ 3 ∷ 0 ∷ 1 ∷ 0 ∷ 0 ∷ 0 ∷ byte_at 0 w ∷ byte_at 1 w ∷ 0 ∷ 0
    ∷ 1 ∷ 1 ∷ 3 ∷ 0 ∷ 1 ∷ 0 ∷ 0 ∷ 0 ∷ byte_at 0 h ∷ byte_at 1 h ∷ 0 ∷ 0
    ∷ 2 ∷ 1 ∷ 3 ∷ 0 ∷ 1 ∷ 0 ∷ 0 ∷ 0 ∷ byte_at 0 bits ∷ byte_at 1 bits ∷ 0 ∷ 0
    ∷ 3 ∷ 1 ∷ 3 ∷ 0 ∷ 1 ∷ 0 ∷ 0 ∷ 0 ∷ byte_at 0 method ∷ byte_at 1 method ∷ 0 ∷ 0
    ∷ 6 ∷ 1 ∷ 3 ∷ 0 ∷ 1 ∷ 0 ∷ 0 ∷ 0 ∷ 0x23 ∷ 0x80 ∷ 0 ∷ 0
    ∷ 0x11 ∷ 1 ∷ 4 ∷ 0 ∷ 1 ∷ 0 ∷ 0 ∷ 0 ∷ 146 ∷ 0 ∷ 0 ∷ 0
    ∷ 0x17 ∷ 1 ∷ 4 ∷ 0 ∷ 1 ∷ 0 ∷ 0 ∷ 0 ∷ byte_at 0 count ∷ byte_at 1 count ∷ byte_at 2 count ∷ byte_at 3 count
    ∷ 0x8D ∷ 0x82 ∷ 3 ∷ 0 ∷ 2 ∷ 0 ∷ 0 ∷ 0 ∷ 2 ∷ 0 ∷ 2 ∷ 0
    ∷ 0x8E ∷ 0x82 ∷ 1 ∷ 0 ∷ 4 ∷ 0 ∷ 0 ∷ 0 ∷ 0 ∷ 1 ∷ 1 ∷ 2
    ∷ 0x12 ∷ 0xC6 ∷ 1 ∷ 0 ∷ 4 ∷ 0 ∷ 0 ∷ 0 ∷ 1 ∷ 4 ∷ 0 ∷ 0
    ∷ 0x1D ∷ 0xC6 ∷ 3 ∷ 0 ∷ 1 ∷ 0 ∷ 0 ∷ 0 ∷ 0xFF ∷ 0x0F ∷ 0 ∷ 0
    ∷ 0 ∷ 0 ∷ 0 ∷ 0 ∷ []

pub file_is : (w h bits method count : ℕ) (strip : List ℕ)
    → file_bytes Little (fields_of w h bits method count ∷ []) strip ≡ before_strip w h bits method count ++ strip
unfolding file_bytes fields_of header_bytes directories_bytes directory_bytes directory_offsets directory_size
    entries_bytes entry_bytes slot_bytes far_bytes far_size value_bytes value_size
file_is w h bits method count strip = refl

pub length-before : (w h bits method count : ℕ) (strip : List ℕ)
    → length (before_strip w h bits method count ++ strip) ≡ 146 + length strip
length-before w h bits method count strip = length-append (before_strip w h bits method count) strip

module _ (w h bits method count : ℕ) (strip : List ℕ) where
  abbrev bytes : List ℕ
  bytes = before_strip w h bits method count ++ strip

  order : order_of bytes ≡ Little
  unfolding order_of is_big
  order = refl

  header : has_header bytes ≡ true
  unfolding has_header is_little is_big
  header = let long : nat_le 8 (length bytes) ≡ true =
      le-leb 8 (length bytes) (omega (arith, length-before w h bits method count strip)) in rw long refl

  first : first_directory bytes ≡ 8
  unfolding first_directory order_of is_big number_at
  first = refl

  fits : directory_fits bytes 8 ≡ true
  unfolding directory_fits entry_count order_of is_big number_at
  fits = le-leb 142 (length bytes) (omega (arith, length-before w h bits method count strip))

  listed : entries bytes 8 ≡ slots
  unfolding entries slot_at value_place size_of entry_count order_of is_big number_at
  listed = rw fits refl

  pub has_entries : HasEntries bytes w h bits method count
  has_entries = record {
    order = order;
    header = header;
    first = first;
    fits = fits;
    listed = listed;
    long = omega (arith, length-before w h bits method count strip);
    width = refl;
    height = refl;
    depth = refl;
    compression = refl;
    photometric = refl;
    offset = refl;
    strip_length = refl;
    dims = refl;
    pattern = refl;
    version = refl;
    white = refl;
  }
