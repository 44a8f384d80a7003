-- Stages: what makes a plane of a plane, and any rectangle of it from a part. This is this project's own.
use Rattle.std.specs.Prelude.{◌≡◌, ℕ, ◌<◌}
use Rattle.plane_view.specs.declared.Rect.{Rect}
use Rattle.plane_view.specs.declared.Shape.{Shape}
use Rattle.plane_view.specs.declared.tiles.TileMut.{TileMut}
use Rattle.plane_view.specs.Plane.{Plane, plane_of}
use Rattle.plane_view.specs.Rectangles.{HasPixel}
use Rattle.plane_view.specs.Lent.{Lent, lent_crop, AgreesWith}
use Rattle.plane_view.specs.Tiles.{loan, tile_rect}
use Rattle.stage_core.specs.Planes.{IsPlane}

-- the shape of a plane
abbrev pub shape_of : Plane → Shape
shape_of P = record { rows = P.rows; cols = P.cols; planes = P.planes }

-- the plane of a shape whose sample at (r, c, p) is f r c p
abbrev pub plane_by : Shape → (ℕ → ℕ → ℕ → ℕ) → Plane
plane_by s f = plane_of s.rows s.cols s.planes f

-- the tile holds what a meaning makes of each plane of a shape that agrees with the view on a rectangle
abbrev pub Makes : (Plane → Plane) → Shape → Lent → Rect → TileMut → Type 0
Makes meaning whole input need out =
    (P : Plane) → IsPlane P whole → AgreesWith P input need → AgreesWith (meaning P) (loan out) (tile_rect out)

-- locality: of planes of a shape that agree on one rectangle, a meaning makes planes that agree on another
abbrev pub IsLocal : (Plane → Plane) → Shape → (need rect : Rect) → Type 0
IsLocal meaning whole need rect =
    (P Q : Plane) → IsPlane P whole → IsPlane Q whole → AgreesWith P (lent_crop Q need) need
    → AgreesWith (meaning P) (lent_crop (meaning Q) rect) rect

-- two stages take the same shapes, and have the same shapes, needs and meanings
pub record AreAlike {S : Type 0} (takes : S → Shape → Type 0) (shaped : S → Shape → Shape) (needed : S → Shape → Rect
    → Rect) (apply : S → Plane → Plane) (s t : S) : Type 0 where
  pub inputs : (input : Shape) → takes s input → takes t input
  pub shapes : (input : Shape) → shaped s input ≡ shaped t input
  pub needs : (input : Shape) (rect : Rect) → needed s input rect ≡ needed t input rect
  pub meanings : (P : Plane) → apply s P ≡ apply t P

-- a formula of a sample at row, column and plane, from samples by place, rests, for the places of `rect`, on those of
-- `need`; `inputs` and `outputs` are the numbers of planes
pub record RestsOn (formula : (ℕ → ℕ → ℕ → ℕ) → ℕ → ℕ → ℕ → ℕ) (inputs : ℕ) (need : Rect) (outputs : ℕ) (rect : Rect) :
    Type 0 where
  pub same : (f g : ℕ → ℕ → ℕ → ℕ) → ((r c p : ℕ) → HasPixel need r c → p < inputs → f r c p ≡ g r c p) → (r c p : ℕ)
      → HasPixel rect r c → p < outputs → formula f r c p ≡ formula g r c p
