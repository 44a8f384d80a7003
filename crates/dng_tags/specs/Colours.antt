-- The group of the colour tags (DNG 1.6, chapter 4, "ColorMatrix1" to "ForwardMatrix2", and chapter 6, "Mapping Camera
-- Color Space to CIE XYZ Space"). The numbers of parts, their limits, and that a calibration is diagonal are this
-- project's own.
use Rattle.std.specs.Prelude.{ℕ, ◌+◌, ◌*◌, ◌/◌, ◌==◌, nat_le, ◌&&◌, if◌then◌else◌, ℤ, pos, int_lt, Bool, List, [], ◌∷◌}
use Rattle.std.specs.Prelude.{map, slice_index_or, Option, None, Some, Result, Ok, Err, unsigned_abs}
use Rattle.std.specs.List.{list_all}
use Rattle.std.specs.Option.{option_map, option_transpose}
use Rattle.text_line.specs.Chain.{and_then}
use Rattle.tag_rules.specs.Quantities.{colour_scale, on_scale}
use Rattle.tag_rules.specs.Tags.{rule_of}
use Rattle.tag_rules.specs.Values.{Dirs, fractions_of}
use Rattle.tag_rules.specs.declared.faults.FrameFault.{FrameFault}
use Rattle.tag_rules.specs.declared.faults.FrameFault.TheVariants.{Colour as ColourFault}
use Rattle.dng_tags.specs.declared.record.Colour.{Colour}
use Rattle.tag_rules.specs.declared.tags.Tag.{Tag}
use Rattle.tag_rules.specs.declared.tags.Tag.TheVariants.{AnalogBalance, AsShotNeutral, CameraCalibration1}
use Rattle.tag_rules.specs.declared.tags.Tag.TheVariants.{CameraCalibration2, ColorMatrix1, ColorMatrix2}
use Rattle.tag_rules.specs.declared.tags.Tag.TheVariants.{ForwardMatrix1, ForwardMatrix2}

-- the refusal of a colour tag
abbrev pub colour_fault : Tag → FrameFault
colour_fault tag = ColourFault (rule_of tag).number

-- fractions of a colour tag in 65536ths
abbrev pub colours_in : Tag → List (ℤ × ℤ) → Result (List ℤ) FrameFault
colours_in tag qs = on_scale colour_scale (colour_fault tag) qs

-- the matrix under a tag, by rows, if it is there
unfoldable pub matrix_of : Dirs → Tag → Result (Option (List ℤ)) FrameFault
matrix_of dirs tag = and_then (fractions_of dirs tag) (λ found. option_transpose (option_map (colours_in tag) found))

-- the entries on the diagonal of a matrix of 3 by 3
abbrev pub diagonal_of : List ℤ → List ℤ
diagonal_of entries =
    slice_index_or entries 0 (pos 0) ∷ slice_index_or entries 4 (pos 0) ∷ slice_index_or entries 8 (pos 0) ∷ []

-- whether a number is 0
abbrev pub is_zero : ℤ → Bool
is_zero n = unsigned_abs n == 0

-- whether three numerators in a row are 0
abbrev pub has_zeros : List (ℤ × ℤ) → (from : ℕ) → Bool
has_zeros qs from =
    is_zero (slice_index_or qs from (pos 0, pos 0)).0
    && is_zero (slice_index_or qs (from + 1) (pos 0, pos 0)).0
    && is_zero (slice_index_or qs (from + 2) (pos 0, pos 0)).0

-- whether the numerators off the diagonal of a matrix of 3 by 3 are 0
unfoldable pub is_diagonal : List (ℤ × ℤ) → Bool
is_diagonal qs = has_zeros qs 1 && has_zeros qs 5

-- ones in 65536ths
abbrev pub ones : List ℤ
ones = pos 65536 ∷ pos 65536 ∷ pos 65536 ∷ []

-- the diagonal of a camera's calibration, which has zeros elsewhere; ones where it is absent
abbrev pub calibration_in : Tag → Option (List (ℤ × ℤ)) → Result (List ℤ) FrameFault
calibration_in tag None = Ok ones
calibration_in tag (Some qs) =
    and_then (colours_in tag qs) (λ entries.
    if is_diagonal qs then Ok (diagonal_of entries) else Err (colour_fault tag))

-- the calibration under a tag
unfoldable pub calibration_of : Dirs → Tag → Result (List ℤ) FrameFault
calibration_of dirs tag = and_then (fractions_of dirs tag) (λ found. calibration_in tag found)

-- the numbers of the analog balance, each of them positive; ones where it is absent
abbrev pub analog_in : Option (List (ℤ × ℤ)) → Result (List ℤ) FrameFault
analog_in None = Ok ones
analog_in (Some qs) =
    and_then (colours_in AnalogBalance qs) (λ entries.
    if list_all (int_lt (pos 0)) entries then Ok entries else Err (colour_fault AnalogBalance))

-- the analog balance by its tag
unfoldable pub analog_of : Dirs → Result (List ℤ) FrameFault
analog_of dirs = and_then (fractions_of dirs AnalogBalance) (λ found. analog_in found)

-- whether a number of the neutral is positive
unfoldable pub is_positive : ℤ × ℤ → Bool
is_positive q = int_lt (pos 0) q.0 && int_lt (pos 0) q.1

-- the gain of a channel in 4096ths: the neutral's green over the channel, both positive, rounded
unfoldable pub gain_of : (green channel : ℤ × ℤ) → ℕ
gain_of green channel =
    let above = unsigned_abs green.0 * unsigned_abs channel.1 in
    let below = unsigned_abs green.1 * unsigned_abs channel.0 in
    (2 * 4096 * above + below) / (2 * below)

-- whether green and a channel are positive, and give a gain of 1 to 2^20
unfoldable pub has_gain : (green channel : ℤ × ℤ) → Bool
has_gain green channel =
    is_positive green
    && is_positive channel
    && nat_le 1 (gain_of green channel)
    && nat_le (gain_of green channel) 1048576

-- the gains of the three channels from the neutral
abbrev pub gains_in : Option (List (ℤ × ℤ)) → Result (List ℕ) FrameFault
gains_in None = Ok (4096 ∷ 4096 ∷ 4096 ∷ [])
gains_in (Some qs) =
    let green = slice_index_or qs 1 (pos 0, pos 0) in
    if list_all (has_gain green) qs then Ok (map (gain_of green) qs) else Err (colour_fault AsShotNeutral)

-- the gains by the tag of the neutral
unfoldable pub gains_of : Dirs → Result (List ℕ) FrameFault
gains_of dirs = and_then (fractions_of dirs AsShotNeutral) (λ found. gains_in found)

-- the group of the colours
unfoldable pub colour_of : Dirs → Result Colour FrameFault
colour_of dirs =
    and_then (matrix_of dirs ColorMatrix1) (λ matrix1.
    and_then (matrix_of dirs ColorMatrix2) (λ matrix2.
    and_then (calibration_of dirs CameraCalibration1) (λ calibration1.
    and_then (calibration_of dirs CameraCalibration2) (λ calibration2.
    and_then (analog_of dirs) (λ analog.
    and_then (gains_of dirs) (λ gains.
    and_then (matrix_of dirs ForwardMatrix1) (λ forward1.
    and_then (matrix_of dirs ForwardMatrix2) (λ forward2.
    Ok (record {
      gains = gains;
      forward1 = forward1;
      forward2 = forward2;
      matrix1 = matrix1;
      matrix2 = matrix2;
      analog = analog;
      calibration1 = calibration1;
      calibration2 = calibration2;
    })))))))))
