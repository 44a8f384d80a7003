-- Readers and writers of std, as contracts see them. All of it is this project's own.
use Rattle.std.specs.Prelude.{◌≡◌, ℕ, Bool, List, drop, Option, Some, IsSome}

-- a source over a reader: the bytes that the reader has left, where it tells them, and how often a read failed
pub record ReaderSource : Type 0 where
  pub left : Option (List ℕ)
  pub faults : ℕ

-- a sink over a writer: the bytes that the writer holds, where it tells them, whether a flush is still to be made good,
-- and how often a call failed
pub record WriterSink : Type 0 where
  pub held : Option (List ℕ)
  pub waits : Bool
  pub faults : ℕ

-- files that an opener opens: the opener, and how often a read failed
pub record OpenedFiles (O : Type 0) : Type 0 where
  pub opener : O
  pub faults : ℕ

-- A file that was opened holds these bytes, and from each place it has the rest of them left to read.
pub record Holds {F : Type 0} (remaining : F → Option (List ℕ)) (position : F → Option ℕ)
    (contents : F → Option (List ℕ)) (file : F) (bytes : List ℕ) : Type 0 where
  pub whole : contents file ≡ Some bytes
  pub placed : IsSome (position file)
  pub rest : (other : F) (at : ℕ) → contents other ≡ Some bytes → position other ≡ Some at
      → remaining other ≡ Some (drop at bytes)
