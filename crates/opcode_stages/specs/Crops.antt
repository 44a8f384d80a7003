-- The crop to a rectangle (DNG 1.6, TrimBounds, ActiveArea, DefaultCropOrigin and DefaultCropSize).
use Rattle.std.specs.Prelude.{ℕ, ◌+◌}
use Rattle.plane_view.specs.declared.Rect.{Rect}
use Rattle.plane_view.specs.declared.Shape.{Shape}
use Rattle.plane_view.specs.Rectangles.{height, width}
use Rattle.opcode_stages.specs.declared.crop.Crop.{Crop}

-- the rectangle of a crop
abbrev pub cropped_to : Crop → Rect
cropped_to s = s.rect

-- the shape of a crop
abbrev pub cropped_shape : Rect → Shape → Shape
cropped_shape rect input = record { rows = height rect; cols = width rect; planes = input.planes }

-- the sample of a crop, from the samples of the input
abbrev pub cropped_at : Rect → (ℕ → ℕ → ℕ → ℕ) → ℕ → ℕ → ℕ → ℕ
cropped_at rect at r c p = at (rect.top + r) (rect.left + c) p
