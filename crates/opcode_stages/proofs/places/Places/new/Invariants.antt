-- The places so far are those of the points so far.
use Rattle.std.proofs.Common.{◌≡◌, ◌==◌, ℕ, ◌^◌, ◌<◌, take}
use Rattle.std.specs.List.{list_any}
use Rattle.opcode_stages.specs.Mends.{is_point}
use Rattle.opcode_stages.specs.inner.Places.{place_of}
use Rattle.opcode_stages.proofs.places.Places.new.Given as goal

abbrev pub invariant-loop-point : goal.invariant-loop-point
invariant-loop-point l = (r c : ℕ) → c < 2 ^ 32 → list_any (λ x. x == place_of r c) l.places.items
    ≡ is_point (take l.point-index l.points) r c
