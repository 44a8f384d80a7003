-- Stamps of planes. This is this project's own.
use Rattle.std.specs.Prelude.{ℕ, ◌+◌, ◌-◌, List, ◌++◌, length, replicate, take}

-- the stamp of each plane, and how many changes there were
pub record Stamped : Type 0 where
  pub stamps : List ℕ
  pub changes : ℕ

-- plane 0 and those of so many stages, before any change: each has the stamp 0
abbrev pub begun : ℕ → Stamped
begun stages = record { stamps = replicate (stages + 1) 0; changes = 0 }

-- the planes from one on get a stamp
abbrev pub stamped_from : (first stamp : ℕ) → List ℕ → List ℕ
stamped_from first stamp stamps = take first stamps ++ replicate (length stamps - first) stamp

-- one change more, of plane `first`: its number is the stamp of that plane and of those above it
abbrev pub changed : (first : ℕ) → Stamped → Stamped
changed first s = record { stamps = stamped_from first (s.changes + 1) s.stamps; changes = s.changes + 1 }
