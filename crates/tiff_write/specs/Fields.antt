-- The entries that are written, and the bytes of their values (TIFF 6.0, section 2, "IFD Entry" and "Types").
use Rattle.std.specs.Prelude.{ℕ, ◌+◌, ◌*◌, List, [], ◌∷◌, length, slice_get, unwrap_or, ℤ}
use Rattle.std.specs.List.{flat_map}
use Rattle.std.specs.Int.{cast_unsigned, w32}
use Rattle.byteorder.specs.Endian.{big_bytes, little_bytes}
use Rattle.tiff_dirs.specs.declared.Order.{Order}
use Rattle.tiff_dirs.specs.declared.Order.TheVariants.{Big, Little}
use Rattle.tiff_write.specs.declared.field.Place.{Place}
use Rattle.tiff_write.specs.declared.field.Place.TheVariants.{Data, Directory, File}
use Rattle.tiff_write.specs.declared.field.Value.{Value}
use Rattle.tiff_write.specs.declared.field.Value.TheVariants.{Bytes, Longs, Places, Shorts}
use Rattle.tiff_write.specs.declared.file.Layout.{Layout}

-- the n bytes of a number in the file's byte order
abbrev pub number_bytes : Order → ℕ → ℕ → List ℕ
number_bytes Little n x = little_bytes n x
number_bytes Big n x = big_bytes n x

-- the offset in the file that a place is; 0 for a directory that isn't there
abbrev pub offset_of : Layout → Place → ℕ
offset_of layout (File at) = at
offset_of layout (Data at) = layout.data_offset + at
offset_of layout (Directory index) = unwrap_or (slice_get layout.directories index) 0

-- the bytes of a value
unfoldable pub value_bytes : Order → Layout → Value → List ℕ
value_bytes order layout (Bytes bytes) = bytes
value_bytes order layout (Shorts numbers) = flat_map (number_bytes order 2) numbers
value_bytes order layout (Longs numbers) = flat_map (number_bytes order 4) numbers
value_bytes order layout (Places places) = flat_map (λ place. number_bytes order 4 (offset_of layout place)) places

-- how many bytes those are
unfoldable pub value_size : Value → ℕ
value_size (Bytes bytes) = length bytes
value_size (Shorts numbers) = 2 * length numbers
value_size (Longs numbers) = 4 * length numbers
value_size (Places places) = 4 * length places

-- the two LONGs of a RATIONAL, the numerator first
abbrev pub halves_of : ℕ × ℕ → List ℕ
halves_of fraction = fraction.0 ∷ fraction.1 ∷ []

-- the same of an SRATIONAL, in two's complement
abbrev pub signed_halves_of : ℤ × ℤ → List ℕ
signed_halves_of fraction = cast_unsigned w32 fraction.0 ∷ cast_unsigned w32 fraction.1 ∷ []
