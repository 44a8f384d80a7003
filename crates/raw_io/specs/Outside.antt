-- What the contracts of files, sources and sinks say of bytes and of counts of faults. All of it is this project's own.
use Rattle.std.specs.Prelude.{◌≡◌, ℕ, ◌-◌, ◌^◌, ◌<◌, ◌≤◌, ◌⊎◌, List, ◌++◌, length, take, drop, Option}
use Rattle.std.specs.Io.KnownBytes.{Consumes}

-- A count of faults rose in a call, or stands at its last value.
abbrev pub Rises : ℕ → ℕ → Type 0
Rises before now = (before < now) ⊎ (now ≡ 2 ^ 64 - 1)

-- No count of a name changed.
abbrev pub SameCounts : (List ℕ → ℕ) → (List ℕ → ℕ) → Type 0
SameCounts before now = (name : List ℕ) → now name ≡ before name

-- A read from an offset put n bytes of the contents at the beginning of the buffer, and 0 only at their end.
pub record ReadsAt (contents : List ℕ) (at : ℕ) (buffer : List ℕ) (n : ℕ) : Type 0 where
  pub bytes : take n buffer ≡ take n (drop at contents)
  pub within : n ≤ length contents - at
  pub end : n ≡ 0 → length buffer ≡ 0 ⊎ length contents ≤ at

-- A prefix of the told bytes was taken, of no more than this many.
abbrev pub TakesAtMost : ℕ → Option (List ℕ) → Option (List ℕ) → Type 0
TakesAtMost most before after = (taken : List ℕ) × Consumes before after taken × (length taken ≤ most)

-- A sink stands for each list that it stood for, followed by these bytes.
abbrev pub Appends : {S : Type 0} → (S → List ℕ → Type 0) → S → S → List ℕ → Type 0
Appends stands_for old new bytes = (list : List ℕ) → stands_for old list → stands_for new (list ++ bytes)
