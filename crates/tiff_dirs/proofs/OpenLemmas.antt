-- What an answer of `open_of` says of a file's bytes, for callers whose definitions test the header and directory 0.
use Rattle.std.proofs.Common.{◌≡◌, ℕ, Bool, true, false, if◌then◌else◌, List, Result, Ok, Err, refl}
use Rattle.tiff_dirs.specs.Header.{directory_fits, first_directory, has_header, open_of}
use Rattle.tiff_dirs.specs.declared.TiffFault.{TiffFault}
use Rattle.tiff_dirs.specs.declared.TiffFault.TheVariants.{BadDirectory, NotTiff}

-- the two tests, and the answer that they give
answer : Bool → Bool → List ℕ → ℕ → Result (List ℕ) TiffFault
answer header fits bytes at = if header then (if fits then Ok bytes else Err (BadDirectory at)) else Err NotTiff

answer-ok : (header fits : Bool) (bytes seen : List ℕ) (at : ℕ) → answer header fits bytes at ≡ Ok seen
    → (seen ≡ bytes) × (header ≡ true) × (fits ≡ true)
unfolding answer
answer-ok true true bytes seen at e = (cc, refl, refl)
answer-ok true false bytes seen at e = absurd (cc)
answer-ok false fits bytes seen at e = absurd (cc)

-- a file that is opened is seen as its bytes, has a header, and directory 0 lies in it
pub open_of-ok : (bytes seen : List ℕ) → open_of bytes ≡ Ok seen
    → (seen ≡ bytes) × (has_header bytes ≡ true) × (directory_fits bytes (first_directory bytes) ≡ true)
unfolding open_of answer
open_of-ok bytes seen e =
    answer-ok (has_header bytes) (directory_fits bytes (first_directory bytes)) bytes seen (first_directory bytes) e
