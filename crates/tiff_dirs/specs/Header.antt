-- The header and the place of a directory (TIFF 6.0, section 2, "Image File Header" and "Image File Directory").
use Rattle.std.specs.Prelude.{ℕ, ◌+◌, ◌*◌, nat_eq, nat_le, Bool, ◌&&◌, ◌||◌, if◌then◌else◌, List, [], ◌∷◌, length}
use Rattle.std.specs.Prelude.{Result, Ok, Err}
use Rattle.std.specs.List.{starts_with}
use Rattle.tiff_dirs.specs.Numbers.{long_at, short_at}
use Rattle.tiff_dirs.specs.declared.Order.{Order}
use Rattle.tiff_dirs.specs.declared.Order.TheVariants.{Big, Little}
use Rattle.tiff_dirs.specs.declared.TiffFault.{TiffFault}
use Rattle.tiff_dirs.specs.declared.TiffFault.TheVariants.{BadDirectory, NotTiff}

-- whether a file begins with `II`, and 42 as a 16-bit number whose least significant byte comes first
unfoldable pub is_little : List ℕ → Bool
is_little bytes = starts_with nat_eq bytes (0x49 ∷ 0x49 ∷ 0x2A ∷ 0x00 ∷ [])

-- whether a file begins with `MM`, and 42 as a 16-bit number whose most significant byte comes first
unfoldable pub is_big : List ℕ → Bool
is_big bytes = starts_with nat_eq bytes (0x4D ∷ 0x4D ∷ 0x00 ∷ 0x2A ∷ [])

-- whether a file has a header: its 8 bytes are there, and begin in one of the two ways
unfoldable pub has_header : List ℕ → Bool
has_header bytes = nat_le 8 (length bytes) && (is_little bytes || is_big bytes)

-- the file's byte order
unfoldable pub order_of : List ℕ → Order
order_of bytes = if is_big bytes then Big else Little

-- the offset of directory 0, in the header's last 4 bytes
unfoldable pub first_directory : List ℕ → ℕ
first_directory bytes = long_at (order_of bytes) bytes 4

-- how many entries the directory at an offset has
unfoldable pub entry_count : List ℕ → ℕ → ℕ
entry_count bytes at = short_at (order_of bytes) bytes at

-- whether the directory at an offset lies in the file: its count, and 12 bytes an entry. The offset of
-- the next directory that stands behind them isn't looked at.
unfoldable pub directory_fits : List ℕ → ℕ → Bool
directory_fits bytes at = nat_le (at + 2 + 12 * entry_count bytes at) (length bytes)

-- what opening a file answers: its bytes, or what is wrong with them
unfoldable pub open_of : List ℕ → Result (List ℕ) TiffFault
open_of bytes =
    if has_header bytes
    then (if directory_fits bytes (first_directory bytes) then Ok bytes else Err (BadDirectory (first_directory bytes)))
    else Err NotTiff

-- what asking for the directory at an offset answers: that offset, or that it doesn't lie in the file
unfoldable pub directory_of : List ℕ → ℕ → Result ℕ TiffFault
directory_of bytes at = if directory_fits bytes at then Ok at else Err (BadDirectory at)
