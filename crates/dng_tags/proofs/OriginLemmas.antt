-- The search for the raw image's directory, one offset after the other.
use Rattle.std.proofs.Common.{◌≡◌, ℕ, ◌+◌, ◌<◌, ◌≤◌, nat_eq, List, length, drop, slice_index, Result, Ok, Err, false}
use Rattle.std.proofs.Common.{refl, arith, add-one}
use Rattle.std.specs.Prelude.{if◌then◌else◌, ◌==◌}
use Rattle.std.proofs.lemmas.Bool.Decides.{nat_tests}
use Rattle.std.proofs.Math.Seq.{drop-cons}
use Rattle.std.proofs.lemmas.List.{drop_all}
use Rattle.tiff_dirs.specs.Header.{directory_of, open_of}
use Rattle.tiff_dirs.specs.declared.TiffFault.{TiffFault}
use Rattle.tiff_dirs.proofs.OpenLemmas.{open_of-ok}
use Rattle.text_line.specs.Chain.{and_then}
use Rattle.dng_tags.specs.Origin.{first_raw, refusing, subfile_type_at, tiff_of}
use Rattle.tag_rules.specs.declared.faults.FrameFault.TheVariants.{NoRaw}

-- the search at offset i
pub first_raw_step : (bytes offsets : List ℕ) (i : ℕ) → i < length offsets → first_raw bytes (drop i offsets)
    ≡ and_then (refusing (directory_of bytes (slice_index offsets i))) (λ at.
    and_then (subfile_type_at bytes at) (λ kind.
    if kind == 0 then Ok at else first_raw bytes (drop (i + 1) offsets)))
unfolding first_raw
first_raw_step bytes offsets i within = rw (add-one, drop-cons offsets i 0) refl

-- past the last offset
pub first_raw_end : (bytes offsets : List ℕ) (i : ℕ) → length offsets ≤ i → first_raw bytes (drop i offsets) ≡ Err NoRaw
unfolding first_raw
first_raw_end bytes offsets i past = rw (drop_all i offsets past) refl

-- a directory whose NewSubFileType isn't 0 is passed over
pub first_raw_passed : (bytes offsets : List ℕ) (i dir kind : ℕ) → i < length offsets
    → refusing (directory_of bytes (slice_index offsets i)) ≡ Ok dir → subfile_type_at bytes dir ≡ Ok kind
    → (kind ≡ 0 → ⊥)
    → first_raw bytes (drop i offsets) ≡ first_raw bytes (drop (i + 1) offsets)
first_raw_passed bytes offsets i dir kind within there told other =
    let untrue : nat_eq kind 0 ≡ false = grind (arith, nat_tests) in
    rw (first_raw_step bytes offsets i within, there, told, untrue) refl

-- a file that isn't refused was opened
not_refused : {A : Type 0} (answer : Result A TiffFault) (value : A) → refusing answer ≡ Ok value → answer ≡ Ok value
not_refused (Ok value) same e = cc
not_refused (Err fault) same e = cc

-- and has the bytes that it was opened over
pub file_is : (bytes file : List ℕ) → tiff_of bytes ≡ Ok file → file ≡ bytes
unfolding tiff_of
file_is bytes file e = (open_of-ok bytes file (not_refused (open_of bytes) file e)).0
