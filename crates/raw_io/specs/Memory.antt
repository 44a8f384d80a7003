-- Files, sources and sinks in memory, as contracts see them. All of it is this project's own.
use Rattle.std.specs.Prelude.{ℕ, ◌+◌, ◌==◌, Bool, if◌then◌else◌, List, [], ◌∷◌, ◌++◌, drop}
use Rattle.std.specs.Prelude.{Option, None, Some, option_map}
use Rattle.std.specs.Io.Iter.{u64_saturate}
use Rattle.std.specs.List.{find, list_any}
use Rattle.std.specs.Option.{option_map_or}
use Rattle.std.specs.Str.{bytes_eq}

-- a count after one more, held at its last value
abbrev pub one_more : ℕ → ℕ
one_more n = u64_saturate (n + 1)

-- how many calls were made, and the numbers of those that fail, counted from 1
pub record CallNumbers : Type 0 where
  pub made : ℕ
  pub failing : List ℕ

-- after one more call
abbrev pub called : CallNumbers → CallNumbers
called calls = record { made = one_more calls.made; failing = calls.failing }

-- whether the next call is one of those that fail
abbrev pub next_fails : CallNumbers → Bool
next_fails calls = list_any (λ n. n == one_more calls.made) calls.failing

-- one more call that fails
abbrev pub with_failing : ℕ → CallNumbers → CallNumbers
with_failing call calls = record { made = calls.made; failing = calls.failing ++ call ∷ [] }

-- no call was made, and none fails
abbrev pub no_calls : CallNumbers
no_calls = record { made = 0; failing = [] }

-- a source in memory: the bytes that are left, its calls, and how often one failed
pub record MemorySource : Type 0 where
  pub left : List ℕ
  pub calls : CallNumbers
  pub faults : ℕ

-- after a read that took n bytes
abbrev pub source_after : ℕ → MemorySource → MemorySource
source_after n source = record { left = drop n source.left; calls = called source.calls; faults = source.faults }

-- after a read that failed
abbrev pub source_failed : MemorySource → MemorySource
source_failed source = record { left = source.left; calls = called source.calls; faults = one_more source.faults }

-- a sink in memory: the bytes that it holds, how many it can hold, its calls, and how often one failed
pub record MemorySink : Type 0 where
  pub bytes : List ℕ
  pub capacity : ℕ
  pub calls : CallNumbers
  pub faults : ℕ

-- after a write of these bytes
abbrev pub sink_after : List ℕ → MemorySink → MemorySink
sink_after bytes sink = record {
  bytes = sink.bytes ++ bytes;
  capacity = sink.capacity;
  calls = called sink.calls;
  faults = sink.faults;
}

-- after a write that failed
abbrev pub sink_failed : MemorySink → MemorySink
sink_failed sink = record {
  bytes = sink.bytes;
  capacity = sink.capacity;
  calls = called sink.calls;
  faults = one_more sink.faults;
}

-- a file in memory, and how often a read of its name failed
pub record MemoryFile : Type 0 where
  pub name : List ℕ
  pub bytes : List ℕ
  pub faults : ℕ

-- files in memory, how often a read of any other name failed, and the calls
pub record MemoryFiles : Type 0 where
  pub files : List MemoryFile
  pub others : ℕ
  pub calls : CallNumbers

-- whether a file has this name
abbrev pub is_named : List ℕ → MemoryFile → Bool
is_named name file = bytes_eq file.name name

-- the file of this name, if it is there
abbrev pub file_of : List ℕ → List MemoryFile → Option MemoryFile
file_of name files = find (is_named name) files

-- the files with this one in the place of that of its name, or behind all
abbrev pub with_file : MemoryFile → List MemoryFile → List MemoryFile
with_file new [] = new ∷ []
with_file new (file ∷ files) = if is_named new.name file then new ∷ files else file ∷ with_file new files

-- the contents under a name that is there
abbrev pub contents_of : MemoryFiles → List ℕ → Option (List ℕ)
contents_of all name = option_map (λ file. file.bytes) (file_of name all.files)

-- how often a read of a name failed; the names that aren't there share one count
abbrev pub faults_of : MemoryFiles → List ℕ → ℕ
faults_of all name = option_map_or (λ file. file.faults) (file_of name all.files) all.others

-- after a name was given its contents; it keeps its count
abbrev pub with_contents : List ℕ → List ℕ → MemoryFiles → MemoryFiles
with_contents name bytes all = record {
  files = with_file (record { name = name; bytes = bytes; faults = faults_of all name }) all.files;
  others = all.others;
  calls = all.calls;
}

-- after a read that went well
abbrev pub files_read : MemoryFiles → MemoryFiles
files_read all = record { files = all.files; others = all.others; calls = called all.calls }

-- after one more fault of this file, or of a name that isn't there
abbrev pub with_fault : Option MemoryFile → MemoryFiles → MemoryFiles
with_fault None all = record { files = all.files; others = one_more all.others; calls = called all.calls }
with_fault (Some file) all = record {
  files = with_file (record { name = file.name; bytes = file.bytes; faults = one_more file.faults }) all.files;
  others = all.others;
  calls = called all.calls;
}

-- after a read of a name that failed
abbrev pub files_failed : List ℕ → MemoryFiles → MemoryFiles
files_failed name all = with_fault (file_of name all.files) all
