-- The group of the origin: a TIFF file of a DNG version that can be read, and the directory of its raw image (TIFF 6.0,
-- section 2; DNG 1.6, chapter 4, "DNGVersion", "DNGBackwardVersion", and chapter 3, "NewSubFileType"; Adobe's TIFF
-- Technical Note 1, "SubIFDs"). That the raw image is the first of directory 0 and its SubIFDs whose NewSubFileType is
-- 0 is this project's own.
use Rattle.std.specs.Prelude.{ℕ, ◌==◌, if◌then◌else◌, List, [], ◌∷◌, slice_index, Result, Ok, Err, ok_or}
use Rattle.std.specs.Option.{option_map_or}
use Rattle.std.specs.Result.{result_map_both}
use Rattle.tiff_dirs.specs.Header.{directory_of, first_directory, open_of}
use Rattle.tiff_dirs.specs.declared.TiffFault.{TiffFault}
use Rattle.tiff_dirs.specs.declared.TiffFault.TheVariants.{BadDirectory as BadDirectoryOfFile, NotTiff as NotTiffOfFile}
use Rattle.text_line.specs.Chain.{and_then}
use Rattle.opcode_list.specs.Lists.{is_newer}
use Rattle.tag_rules.specs.Values.{Dirs, numbers_at}
use Rattle.tag_rules.specs.declared.faults.FrameFault.{FrameFault}
use Rattle.tag_rules.specs.declared.faults.FrameFault.TheVariants.{BadDirectory, Newer, NoRaw, NotDng, NotTiff}
use Rattle.dng_tags.specs.declared.origin.Version.{Version}
use Rattle.tag_rules.specs.declared.tags.Tag.TheVariants.{DngBackwardVersion, DngVersion, NewSubfileType, SubIfds}

-- what is wrong with a file or a directory, as a frame's fault
abbrev pub as_refusal : TiffFault → FrameFault
as_refusal NotTiffOfFile = NotTiff
as_refusal (BadDirectoryOfFile at) = BadDirectory at

-- an answer about a file or a directory, with the frame's fault in place of its own
abbrev pub refusing : {A : Type 0} → Result A TiffFault → Result A FrameFault
refusing answer = result_map_both (λ value. value) as_refusal answer

-- the file's bytes: they have a header, and directory 0 lies among them
unfoldable pub tiff_of : List ℕ → Result (List ℕ) FrameFault
tiff_of bytes = refusing (open_of bytes)

-- the first two numbers of a version
abbrev pub version_in : List ℕ → Version
version_in xs = record { major = slice_index xs 0; minor = slice_index xs 1 }

-- the file's version
unfoldable pub version_of : List ℕ → Result Version FrameFault
version_of bytes =
    and_then (numbers_at bytes (first_directory bytes) DngVersion) (λ found.
    and_then (ok_or found NotDng) (λ xs. Ok (version_in xs)))

-- the version that a reader needs: the file's own where the tag is absent
unfoldable pub needed_version_of : List ℕ → Version → Result Version FrameFault
needed_version_of bytes version =
    and_then (numbers_at bytes (first_directory bytes) DngBackwardVersion) (λ found.
    let needed = option_map_or version_in found version in
    if is_newer needed.major needed.minor then Err Newer else Ok needed)

-- NewSubFileType of the directory at an offset, 0 where there is none
unfoldable pub subfile_type_at : List ℕ → ℕ → Result ℕ FrameFault
subfile_type_at bytes at =
    and_then (numbers_at bytes at NewSubfileType) (λ found. Ok (option_map_or (λ xs. slice_index xs 0) found 0))

-- the first of the directories at these offsets whose NewSubFileType is 0
unfoldable pub first_raw : List ℕ → List ℕ → Result ℕ FrameFault
first_raw bytes [] = Err NoRaw
first_raw bytes (at ∷ rest) =
    and_then (refusing (directory_of bytes at)) (λ at.
    and_then (subfile_type_at bytes at) (λ kind.
    if kind == 0 then Ok at else first_raw bytes rest))

-- the offset of the raw image's directory
unfoldable pub raw_directory_of : List ℕ → Result ℕ FrameFault
raw_directory_of bytes =
    and_then (subfile_type_at bytes (first_directory bytes)) (λ kind.
    if kind == 0 then Ok (first_directory bytes)
    else and_then (numbers_at bytes (first_directory bytes) SubIfds) (λ found.
    and_then (ok_or found NoRaw) (λ offsets. first_raw bytes offsets)))

-- the group of the origin: the file with its raw image's directory
unfoldable pub origin_of : List ℕ → Result Dirs FrameFault
origin_of bytes =
    and_then (version_of bytes) (λ version.
    and_then (needed_version_of bytes version) (λ _.
    and_then (raw_directory_of bytes) (λ raw. Ok (record { bytes = bytes; raw = raw }))))
