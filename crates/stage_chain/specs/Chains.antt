-- Stages one after the other, each over the whole plane that the one before makes. This is this project's own.
use Rattle.std.specs.Prelude.{⊤, List, [], ◌∷◌}
use Rattle.plane_view.specs.declared.Shape.{Shape}
use Rattle.plane_view.specs.Plane.{Plane}

-- all stages applied in turn
abbrev pub whole_of : {S : Type 0} → (S → Plane → Plane) → List S → Plane → Plane
whole_of apply [] P = P
whole_of apply (stage ∷ stages) P = whole_of apply stages (apply stage P)

-- each stage takes the shape that the one before makes, the first one this shape
abbrev pub TakeInTurn : {S : Type 0} → (S → Shape → Type 0) → (S → Shape → Shape) → List S → Shape → Type 0
TakeInTurn takes shaped [] input = ⊤
TakeInTurn takes shaped (stage ∷ stages) input = takes stage input × TakeInTurn takes shaped stages (shaped stage input)
