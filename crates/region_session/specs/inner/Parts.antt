-- Definitions for the contracts between functions of this crate: parts of planes that are filled cell by cell. This is
-- this project's own.
use Rattle.std.specs.Prelude.{◌≡◌, ℕ, ◌<◌, ◌*◌, List, get_or, length, take, true}
use Rattle.std.specs.List.{Contains}
use Rattle.plane_view.specs.declared.Rect.{Rect}
use Rattle.plane_view.specs.Plane.{Plane, sample}
use Rattle.plane_view.specs.Rectangles.{HasPixel, LiesIn, area_of}
use Rattle.plane_view.specs.Lent.{AgreesWith, Lent, sample_at}
use Rattle.stage_deps.specs.Cells.{cell_at}
use Rattle.kept_cells.specs.Held.{Held}

-- a rectangle, a number of planes, and as many of the samples as they take
abbrev pub part_in : Rect → ℕ → List ℕ → Lent
part_in rect planes samples = record { rect = rect; planes = planes; samples = take (area_of rect * planes) samples }

-- one of the rectangles that are wanted has the pixel
abbrev pub IsWanted : List Rect → ℕ → ℕ → Type 0
IsWanted wanted r c = (j : ℕ) × (j < length wanted) × HasPixel (cell_at wanted j) r c

-- a part has a plane's samples at the wanted pixels of the cells of these numbers
pub record HasCells (P : Plane) (L : Lent) (wanted cells : List Rect) (numbers : List ℕ) : Type 0 where
  pub planes : P.planes ≡ L.planes
  pub samples : (k r c p : ℕ) → Contains numbers k → HasPixel (cell_at cells k) r c → IsWanted wanted r c
      → HasPixel L.rect r c → p < P.planes → sample P r c p ≡ sample_at L r c p

-- a part has a plane's samples at the wanted pixels of these rectangles
pub record IsFilled (P : Plane) (L : Lent) (wanted rects : List Rect) : Type 0 where
  pub planes : P.planes ≡ L.planes
  pub samples : (i r c p : ℕ) → i < length rects → HasPixel (cell_at rects i) r c → IsWanted wanted r c
      → HasPixel L.rect r c → p < P.planes → sample P r c p ≡ sample_at L r c p

-- a window of a rectangle has the wanted pixels of it
abbrev pub HasWanted : (window rect : Rect) → List Rect → Type 0
HasWanted window rect wanted = (r c : ℕ) → IsWanted wanted r c → HasPixel rect r c → HasPixel window r c

-- a part has a rectangle, and the plane's samples there
pub record Shows (P : Plane) (L : Lent) (rect : Rect) : Type 0 where
  pub lies : LiesIn rect L.rect
  pub agrees : AgreesWith P L rect

-- the cells of a plane with these numbers that are held have the sizes of these rectangles
abbrev pub HaveSizes : Held → (plane planes : ℕ) → List ℕ → List Rect → Type 0
HaveSizes held plane planes numbers rects =
    (i : ℕ) → i < length numbers → held.holds plane (get_or numbers i 0) ≡ true
    → length (held.samples plane (get_or numbers i 0)) ≡ area_of (cell_at rects i) * planes
