-- Definitions for the contracts between functions of this crate: points that are looked up by their places. This is
-- this project's own.
use Rattle.std.specs.Prelude.{ℕ, ◌==◌, Bool}
use Rattle.std.specs.List.{list_any}
use Rattle.opcode_stages.specs.declared.places.Places.{Places}
use Rattle.opcode_stages.specs.inner.Places.{place_of}

-- whether the pixel at row r, column c is one of the points
abbrev pub has_place : Places → ℕ → ℕ → Bool
has_place places r c = list_any (λ x. x == place_of r c) places.places
