-- Samples of one line from their differences (ITU-T T.81, H.1.2.1), for the functions that make lines.
use Rattle.std.specs.Prelude.{◌≡◌, ℕ, ◌+◌, ◌-◌, ◌<◌, nat_lt, if◌then◌else◌, ℤ, pos, ◌+ℤ◌, List, ◌++◌, length}
use Rattle.std.specs.Prelude.{slice_index}
use Rattle.ljpeg_huffman.specs.Differences.{modulo}
use Rattle.ljpeg_predict.specs.Prediction.{predicted, prediction}
use Rattle.ljpeg_predict.specs.Scans.{Scan}
use Rattle.ljpeg_predict.specs.declared.scan.Predictor.{Predictor}

-- each sample of a line is its prediction plus the number that stood there, modulo 2^16
abbrev pub IsPredicted : (ℕ → ℤ) → List ℕ → List ℕ → Type 0
IsPredicted prediction numbers line =
    (place : ℕ) → place < length line
    → slice_index line place ≡ modulo (prediction place +ℤ pos (slice_index numbers place))

-- the first line, with `step` components, whose first samples are predicted as `start`
abbrev pub IsFirstLine : ℕ → ℕ → List ℕ → List ℕ → Type 0
IsFirstLine start step numbers line =
    IsPredicted (λ place. if nat_lt place step then pos start else pos (slice_index line (place - step))) numbers line

-- a line below another one
abbrev pub IsNextLine : Predictor → ℕ → List ℕ → List ℕ → List ℕ → Type 0
IsNextLine predictor step above numbers line =
    IsPredicted (λ place. if nat_lt place step then pos (slice_index above place)
    else predicted predictor (slice_index line (place - step)) (slice_index above place)
    (slice_index above (place - step))) numbers line

-- a line of a scan below the lines of `above`
abbrev pub IsLine : Scan → List ℕ → List ℕ → List ℕ → Type 0
IsLine scan above numbers line =
    IsPredicted (λ place. prediction scan (above ++ line) (length above + place)) numbers line
