-- The values of settings, as a script line or a settings file gives them. All of it is this project's own.
use Rattle.std.specs.Prelude.{ℕ, ℤ, pos, negsuc, ◌==◌, ◌&&◌, List, [], ◌∷◌, Option, Some, None, option_map}
use Rattle.std.specs.Prelude.{option_and_then, if◌then◌else◌, nat_lt, nat_le, length, codes, bytes_eq}
use Rattle.malvar.specs.declared.Kind.{Kind}
use Rattle.malvar.specs.declared.Kind.TheVariants.{Malvar, Bilinear}
use Rattle.tone_table.specs.Knots.{knots_of}
use Rattle.tone_table.specs.declared.Curve.{Curve}
use Rattle.tone_table.specs.declared.Curve.TheVariants.{Linear, Root, Knots}
use Rattle.dev_settings.specs.declared.key.Key.{Key}
use Rattle.dev_settings.specs.declared.key.Key.TheVariants as key
use Rattle.dev_settings.specs.declared.settings.Change.{Change}
use Rattle.dev_settings.specs.declared.settings.Change.TheVariants as change
use Rattle.dev_settings.specs.declared.settings.MatrixChoice.{MatrixChoice}
use Rattle.dev_settings.specs.declared.settings.MatrixChoice.TheVariants.{Auto, Camera, Forward1, Forward2, Own}

-- a value as it is written: a name, an integer, or a list of integers
pub data Written : Type 0 where
  name : List ℕ → Written
  integer : ℤ → Written
  integers : List ℤ → Written

-- each element read; None where one has a wrong form
abbrev pub each : {X Y : Type 0} → (X → Option Y) → List X → Option (List Y)
each read [] = Some []
each read (x ∷ xs) = option_and_then (λ y. option_map (λ ys. y ∷ ys) (each read xs)) (read x)

-- a list of integers; no setting has more than 32
abbrev pub integers_of : {X : Type 0} → (X → Option ℤ) → List X → Option (List ℤ)
integers_of read xs = if nat_le (length xs) 32 then each read xs else None

-- the integer, where it is from `low` to `high`
abbrev pub within : ℕ → ℕ → ℤ → Option ℕ
within low high (pos n) = if nat_le low n && nat_le n high then Some n else None
within low high (negsuc n) = None

-- a black or white level from `low` on, or `frame`, the frame's own
abbrev pub level_of : ℕ → Written → Option (Option ℕ)
level_of low (name text) = if bytes_eq text (codes "frame") then Some None else None
level_of low (integer n) = option_map (λ level. Some level) (within low 65535 n)
level_of low (integers ns) = None

-- how the colours that a pixel lacks are found, by name
abbrev pub demosaic_of : Written → Option Kind
demosaic_of (name text) =
    if bytes_eq text (codes "malvar") then Some Malvar
    else (if bytes_eq text (codes "bilinear") then Some Bilinear else None)
demosaic_of (integer n) = None
demosaic_of (integers ns) = None

-- a gain in 4096ths, from 1 to 2^20
abbrev pub gain_of : ℤ → Option ℕ
gain_of n = within 1 1048576 n

-- the gains of red, green and blue
abbrev pub gains_of : List ℤ → Option (List ℕ)
gains_of (red ∷ green ∷ blue ∷ []) = each gain_of (red ∷ green ∷ blue ∷ [])
gains_of _ = None

-- gains, or `shot`, the frame's own
abbrev pub wb_of : Written → Option (Option (List ℕ))
wb_of (name text) = if bytes_eq text (codes "shot") then Some None else None
wb_of (integer n) = None
wb_of (integers ns) = option_map (λ gains. Some gains) (gains_of ns)

-- an exposure in 1024ths, from 0 to 2^16
abbrev pub exposure_of : Written → Option ℕ
exposure_of (name text) = None
exposure_of (integer n) = within 0 65536 n
exposure_of (integers ns) = None

-- an entry of a matrix, in 65536ths, from -2^24 to 2^24
abbrev pub entry_of : ℤ → Option ℤ
entry_of (pos n) = if nat_le n 16777216 then Some (pos n) else None
entry_of (negsuc n) = if nat_lt n 16777216 then Some (negsuc n) else None

-- the nine entries of a matrix, row by row
abbrev pub entries_of : List ℤ → Option (List ℤ)
entries_of ns = if length ns == 9 then each entry_of ns else None

-- the matrix with this name
abbrev pub matrix_named : List ℕ → Option MatrixChoice
matrix_named text =
    if bytes_eq text (codes "auto") then Some Auto
    else (if bytes_eq text (codes "camera") then Some Camera
    else (if bytes_eq text (codes "forward1") then Some Forward1
    else (if bytes_eq text (codes "forward2") then Some Forward2 else None)))

-- a matrix, by its name or its entries
abbrev pub matrix_of : Written → Option MatrixChoice
matrix_of (name text) = matrix_named text
matrix_of (integer n) = None
matrix_of (integers ns) = option_map (λ entries. Own entries) (entries_of ns)

-- the point with these coordinates, each from 0 to 65535
abbrev pub point_of : ℤ → ℤ → Option (ℕ × ℕ)
point_of x y = option_and_then (λ across. option_map (λ up. (across, up)) (within 0 65535 y)) (within 0 65535 x)

-- the points whose coordinates these are, x and y in turn
abbrev pub points_of : List ℤ → Option (List (ℕ × ℕ))
points_of [] = Some []
points_of (x ∷ []) = None
points_of (x ∷ y ∷ ns) = option_and_then (λ point. option_map (λ points. point ∷ points) (points_of ns)) (point_of x y)

-- the curve with this name
abbrev pub curve_named : List ℕ → Option Curve
curve_named text =
    if bytes_eq text (codes "linear") then Some Linear else (if bytes_eq text (codes "root") then Some Root else None)

-- a tone curve, by its name or its knots
abbrev pub tone_of : Written → Option Curve
tone_of (name text) = curve_named text
tone_of (integer n) = None
tone_of (integers ns) = option_map (λ knots. Knots knots) (option_and_then knots_of (points_of ns))

-- the change of a key to a value
abbrev pub change_of : Key → Written → Option Change
change_of key.Black value = option_map (λ level. change.Black level) (level_of 0 value)
change_of key.White value = option_map (λ level. change.White level) (level_of 1 value)
change_of key.Demosaic value = option_map (λ kind. change.Demosaic kind) (demosaic_of value)
change_of key.Wb value = option_map (λ gains. change.Wb gains) (wb_of value)
change_of key.Exposure value = option_map (λ exposure. change.Exposure exposure) (exposure_of value)
change_of key.Matrix value = option_map (λ choice. change.Matrix choice) (matrix_of value)
change_of key.Tone value = option_map (λ curve. change.Tone curve) (tone_of value)
