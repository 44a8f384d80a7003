-- The head of a tag image file (TIFF 6.0, section 2 and section 6, "RGB Full Color Images"), the least significant
-- byte of each number first. Which entries there are, and that the pixels stand in one strip behind the head, is this
-- project's own.
use Rattle.std.specs.Prelude.{ℕ, ◌*◌, List, [], ◌∷◌, ◌++◌, codes, length}
use Rattle.std.specs.Int.{to_le_bytes, w16, w32}
use Rattle.std.specs.List.{flat_map}
use Rattle.image_out.specs.declared.tiff.Entry.{Entry}

-- the type of whole numbers of 16 bits ("Types", SHORT)
abbrev pub short : ℕ
short = 3

-- the type of whole numbers of 32 bits ("Types", LONG)
abbrev pub long : ℕ
long = 4

-- the type of fractions of two numbers of 32 bits ("Types", RATIONAL)
abbrev pub rational : ℕ
rational = 5

-- an entry with a tag, a type, a count, and its value or the offset at which that stands
abbrev pub entry : (tag kind count number : ℕ) → Entry
entry tag kind count number = record { tag = tag; kind = kind; count = count; number = number }

-- its twelve bytes ("IFD Entry")
abbrev pub entry_bytes : Entry → List ℕ
entry_bytes e = to_le_bytes w16 e.tag ++ to_le_bytes w16 e.kind ++ to_le_bytes w32 e.count ++ to_le_bytes w32 e.number

-- the entries of an image of w columns and h rows, with three samples of 16 bits a pixel
abbrev pub entries_of : ℕ → ℕ → List Entry
entries_of w h =
    -- ImageWidth, ImageLength, BitsPerSample
    entry 256 long 1 w ∷ entry 257 long 1 h ∷ entry 258 short 3 158
    -- Compression: none; PhotometricInterpretation: RGB; StripOffsets; SamplesPerPixel
    ∷ entry 259 short 1 1 ∷ entry 262 short 1 2 ∷ entry 273 long 1 180 ∷ entry 277 short 1 3
    -- RowsPerStrip, StripByteCounts
    ∷ entry 278 long 1 h ∷ entry 279 long 1 (h * (6 * w))
    -- XResolution, YResolution; ResolutionUnit: the inch
    ∷ entry 282 rational 1 164 ∷ entry 283 rational 1 172 ∷ entry 296 short 1 2 ∷ []

-- `II`, 42, and the offset of the directory ("Image File Header")
abbrev pub header : List ℕ
header = codes "II" ++ to_le_bytes w16 42 ++ to_le_bytes w32 8

-- the count of entries, the entries, and that no directory follows ("Image File Directory")
abbrev pub directory : ℕ → ℕ → List ℕ
directory w h = to_le_bytes w16 (length (entries_of w h)) ++ flat_map entry_bytes (entries_of w h) ++ to_le_bytes w32 0

-- the values that stand behind the directory: three times 16 bits at 158, and twice 72/1 at 164 and 172
abbrev pub values : List ℕ
values =
    flat_map (to_le_bytes w16) (16 ∷ 16 ∷ 16 ∷ [])
    ++ flat_map (to_le_bytes w32) (72 ∷ 1 ∷ 72 ∷ 1 ∷ [])

-- the 180 bytes of the head
unfoldable pub tiff_head_of : ℕ → ℕ → List ℕ
tiff_head_of w h = header ++ directory w h ++ values
