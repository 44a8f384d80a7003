-- Samples from their differences (ITU-T T.81, H.1.2.1).
use Rattle.std.specs.Prelude.{◌≡◌, ℕ, ◌-◌, ◌%◌, ◌^◌, nat_lt, if◌then◌else◌, ℤ, pos, ◌+ℤ◌, ◌-ℤ◌, List, length}
use Rattle.std.specs.Prelude.{slice_index, slice_index_or, EachIndex}
use Rattle.std.specs.Int.{int_div_euclid}
use Rattle.ljpeg_huffman.specs.Differences.{modulo}
use Rattle.ljpeg_predict.specs.Scans.{Scan, components, row_length}
use Rattle.ljpeg_predict.specs.declared.scan.Predictor.{Predictor}
use Rattle.ljpeg_predict.specs.declared.scan.Predictor.TheVariants.{Left, Above, AboveLeft, Plane, LeftAndSlope}
use Rattle.ljpeg_predict.specs.declared.scan.Predictor.TheVariants.{AboveAndSlope, Mean}

-- half of a number, rounded down
abbrev pub half : ℤ → ℤ
half z = int_div_euclid z (pos 2)

-- the prediction from the samples to the left, above, and above to the left (table H.1)
abbrev pub predicted : Predictor → ℕ → ℕ → ℕ → ℤ
predicted Left left above corner = pos left
predicted Above left above corner = pos above
predicted AboveLeft left above corner = pos corner
predicted Plane left above corner = pos left +ℤ pos above -ℤ pos corner
predicted LeftAndSlope left above corner = pos left +ℤ half (pos above -ℤ pos corner)
predicted AboveAndSlope left above corner = pos above +ℤ half (pos left -ℤ pos corner)
predicted Mean left above corner = half (pos left +ℤ pos above)

-- the prediction of the sample at a place, from earlier samples of its component. The first sample of the first line is
-- predicted as half of the range, the others of that line by the sample to the left, the first sample of each other
-- line by the one above, and all others by the scan's predictor.
unfoldable pub prediction : Scan → List ℕ → ℕ → ℤ
prediction scan samples place =
    let step = components scan in
    let row = row_length scan in
    let left = slice_index samples (place - step) in
    let above = slice_index samples (place - row) in
    if nat_lt place step then pos (2 ^ (scan.precision - 1))
    else (if nat_lt place row then pos left
    else (if nat_lt (place % row) step then pos above
    else predicted scan.predictor left above (slice_index samples (place - row - step))))

-- The samples are those of the differences: each one is its difference plus its prediction from this same list, modulo
-- 2^16.
pub record IsRebuilt (scan : Scan) (differences : List ℤ) (samples : List ℕ) : Type 0 where
  pub lengths : length samples ≡ length differences
  pub each : EachIndex samples (λ place. slice_index samples place
      ≡ modulo (prediction scan samples place +ℤ slice_index_or differences place (pos 0)))
