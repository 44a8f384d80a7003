-- How contracts see the entries that `Tiff::find` gives. This is this project's own.
use Rattle.std.specs.Prelude.{IfOk, IfSome, Option, Result}
use Rattle.std.specs.Option.{option_map}
use Rattle.std.specs.Result.{result_map_both}
use Rattle.tiff_dirs.specs.Entries.{Field}
use Rattle.tiff_dirs.specs.declared.Entry.{Entry}

-- an entry, with the bytes that its slice holds
abbrev pub field_seen : Entry → Field
field_seen entry = record {
  tag = entry.tag;
  kind = entry.kind;
  count = entry.count;
  value = entry.value.now;
}

-- what was found, whatever the refusal in its place is
abbrev pub seen : {F : Type 0} → Result (Option Entry) F → Result (Option Field) F
seen answer = result_map_both (option_map field_seen) (λ fault. fault) answer

-- a fact of what was found, if anything was
abbrev pub IfFound : {A F : Type 0} → Result (Option A) F → (A → Type 0) → Type 0
IfFound answer P = IfOk answer (λ found. IfSome found P)
