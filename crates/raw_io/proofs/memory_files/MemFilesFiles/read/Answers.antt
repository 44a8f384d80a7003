use Rattle.std.proofs.Common.{◌≡◌, ℕ, ◌<◌, ◌≤◌, ◌||◌, min, ◌-◌, ◌++◌, true, false, List, length, take, drop, Some}
use Rattle.std.proofs.Common.{refl, sym, ◌∙◌, ap, subst, arith}
use Rattle.std.specs.Option.{IfSome, is_none}
use Rattle.raw_io.specs.Outside.{ReadsAt}
use Rattle.raw_io.specs.Memory.{MemoryFile, MemoryFiles, file_of, one_more, contents_of, next_fails}
use Rattle.raw_io.specs.inner.Places.{place_of}
use Rattle.raw_io.specs.contracts.memory_files.MemFiles.{the_view}
use Rattle.raw_io.proofs.Places.{there, absent, fault_absent, fault_there, fault_contents, fault_rises, fault_grows}
use Rattle.raw_io.proofs.Places.{fails_absent, goes_well, copied_there, reads_there}
use Rattle.raw_io.proofs.memory_files.MemFilesFiles.read.Goals as goal

pub returns-then-place-len-clause-at_fault : goal.returns-then-place-len-clause-at_fault
returns-then-place-len-clause-at_fault c =
    let name = c.args.name.now in
    let all = the_view c.self.inside in
    let at : c.place-place.result ≡ place_of name all.files = cc in
    let past : length all.files ≤ c.place-place.result =
    omega (arith, c.if-place-len.true, c.len.ensures, c.self.inside.files.ok.0) in (
      refl,
      fault_absent name all c.args.self.now c.place-place.result c.saturating_add-self-inside.result
          c.begin-refused.new.self at past c.saturating_add-self-inside.ensures c.begin-refused.ensures.after
          c.self.view_is,
    )

pub returns-then-place-len-clause-failed : goal.returns-then-place-len-clause-failed
returns-then-place-len-clause-failed c =
    let name = c.args.name.now in
    let all = the_view c.self.inside in
    let at : c.place-place.result ≡ place_of name all.files = cc in
    let past : length all.files ≤ c.place-place.result =
    omega (arith, c.if-place-len.true, c.len.ensures, c.self.inside.files.ok.0) in
    fault_rises name c.args.self.now _ (fault_absent name all c.args.self.now c.place-place.result
    c.saturating_add-self-inside.result c.begin-refused.new.self at past c.saturating_add-self-inside.ensures
    c.begin-refused.ensures.after c.self.view_is)

pub returns-then-place-len-clause-fails : goal.returns-then-place-len-clause-fails
returns-then-place-len-clause-fails c =
    let name = c.args.name.now in
    let all = the_view c.self.inside in
    let at : c.place-place.result ≡ place_of name all.files = cc in
    let past : length all.files ≤ c.place-place.result =
    omega (arith, c.if-place-len.true, c.len.ensures, c.self.inside.files.ok.0) in
    let P : MemoryFiles → Type 0 = λ a. true ≡ next_fails a.calls || is_none (contents_of a name) in
    subst P c.self.view_is (fails_absent name all (absent name all.files c.place-place.result at past))

pub returns-then-refused-clause-at_fault : goal.returns-then-refused-clause-at_fault
returns-then-refused-clause-at_fault c =
    let name = c.args.name.now in
    let all = the_view c.self.inside in
    let at : c.place-place.result ≡ place_of name all.files = cc in
    let within : c.place-place.result < length all.files =
    omega (arith, c.if-place-len.false, c.len.ensures, c.self.inside.files.ok.0) in (
      refl,
      fault_there name all c.args.self.now c.place-place.result c.index_mut.result.now c.count_fault.new.self
          c.begin-refused.new.self at within c.index_mut.ensures.value c.count_fault.ensures.counted
          c.begin-refused.ensures.after c.self.view_is,
    )

pub returns-then-refused-clause-contents : goal.returns-then-refused-clause-contents
returns-then-refused-clause-contents c =
    let name = c.args.name.now in
    let all = the_view c.self.inside in
    let at : c.place-place.result ≡ place_of name all.files = cc in
    let within : c.place-place.result < length all.files =
    omega (arith, c.if-place-len.false, c.len.ensures, c.self.inside.files.ok.0) in
    fault_contents name c.args.self.now _ (fault_there name all c.args.self.now c.place-place.result
    c.index_mut.result.now c.count_fault.new.self c.begin-refused.new.self at within c.index_mut.ensures.value
    c.count_fault.ensures.counted c.begin-refused.ensures.after c.self.view_is)

pub returns-then-refused-clause-counts : goal.returns-then-refused-clause-counts
returns-then-refused-clause-counts c =
    let name = c.args.name.now in
    let all = the_view c.self.inside in
    let at : c.place-place.result ≡ place_of name all.files = cc in
    let within : c.place-place.result < length all.files =
    omega (arith, c.if-place-len.false, c.len.ensures, c.self.inside.files.ok.0) in
    let file = c.index_mut.result.now in
    let P : MemoryFiles → Type 0 = λ a. file_of name a.files ≡ Some file in
    let found : file_of name c.args.self.now.files ≡ Some file =
    subst P c.self.view_is (there name all.files _ file at within c.index_mut.ensures.value) in
    let grows : file.faults ≤ one_more file.faults =
    omega (arith, c.count_fault.ensures.grows, ap (λ (f : MemoryFile). f.faults) c.count_fault.ensures.counted) in
    fault_grows name c.args.self.now _ file (fault_there name all c.args.self.now c.place-place.result file
    c.count_fault.new.self c.begin-refused.new.self at within c.index_mut.ensures.value
    c.count_fault.ensures.counted c.begin-refused.ensures.after c.self.view_is) found grows

pub returns-then-refused-clause-failed : goal.returns-then-refused-clause-failed
returns-then-refused-clause-failed c =
    let name = c.args.name.now in
    let all = the_view c.self.inside in
    let at : c.place-place.result ≡ place_of name all.files = cc in
    let within : c.place-place.result < length all.files =
    omega (arith, c.if-place-len.false, c.len.ensures, c.self.inside.files.ok.0) in
    fault_rises name c.args.self.now _ (fault_there name all c.args.self.now c.place-place.result
    c.index_mut.result.now c.count_fault.new.self c.begin-refused.new.self at within c.index_mut.ensures.value
    c.count_fault.ensures.counted c.begin-refused.ensures.after c.self.view_is)

pub returns-clause-bytes : goal.returns-clause-bytes
returns-clause-bytes c =
    let name = c.args.name.now in
    let all = the_view c.self.inside in
    let at : c.place-place.result ≡ place_of name all.files = cc in
    let within : c.place-place.result < length all.files =
    omega (arith, c.if-place-len.false, c.len.ensures, c.self.inside.files.ok.0) in
    let file = c.index.result.now in
    let found : file_of name all.files ≡ Some file = there name all.files _ file at within c.index.ensures in
    let bytes : c.bytes.result.now ≡ file.bytes = c.bytes.ensures in
    let count = c.copy_from.ensures.count
    ∙ ap (λ (l : List ℕ). min (length l - c.args.at) (length c.args.into.now)) bytes in
    let copied = c.copy_from.ensures.copied ∙ ap (λ (l : List ℕ).
    take c.copy_from.result (drop c.args.at l) ++ drop c.copy_from.result c.args.into.now) bytes in
    let P : MemoryFiles → Type 0 =
    λ a. IfSome (contents_of a name) (λ bytes. ReadsAt bytes c.args.at c.copy_from.new.into c.copy_from.result) in
    subst P c.self.view_is (reads_there name all file c.args.at c.copy_from.result c.copy_from.new.into c.args.into.now
    found count copied)

pub returns-clause-fails : goal.returns-clause-fails
returns-clause-fails c =
    let name = c.args.name.now in
    let all = the_view c.self.inside in
    let at : c.place-place.result ≡ place_of name all.files = cc in
    let within : c.place-place.result < length all.files =
    omega (arith, c.if-place-len.false, c.len.ensures, c.self.inside.files.ok.0) in
    let file = c.index.result.now in
    let found : file_of name all.files ≡ Some file = there name all.files _ file at within c.index.ensures in
    let P : MemoryFiles → Type 0 = λ a. false ≡ next_fails a.calls || is_none (contents_of a name) in
    subst P c.self.view_is
    (goes_well name all file found (sym c.if-refused.false ∙ c.begin-refused.ensures.fails))

pub returns-clause-copied : goal.returns-clause-copied
returns-clause-copied c =
    let name = c.args.name.now in
    let all = the_view c.self.inside in
    let at : c.place-place.result ≡ place_of name all.files = cc in
    let within : c.place-place.result < length all.files =
    omega (arith, c.if-place-len.false, c.len.ensures, c.self.inside.files.ok.0) in
    let file = c.index.result.now in
    let found : file_of name all.files ≡ Some file = there name all.files _ file at within c.index.ensures in
    let bytes : c.bytes.result.now ≡ file.bytes = c.bytes.ensures in
    let count = c.copy_from.ensures.count
    ∙ ap (λ (l : List ℕ). min (length l - c.args.at) (length c.args.into.now)) bytes in
    let copied = c.copy_from.ensures.copied ∙ ap (λ (l : List ℕ).
    take c.copy_from.result (drop c.args.at l) ++ drop c.copy_from.result c.args.into.now) bytes in
    let P : MemoryFiles → Type 0 = λ a. IfSome (contents_of a name) (λ bytes.
    (c.copy_from.result ≡ min (length bytes - c.args.at) (length c.args.into.now))
    × (c.copy_from.new.into
    ≡ take c.copy_from.result (drop c.args.at bytes) ++ drop c.copy_from.result c.args.into.now)) in
    subst P c.self.view_is (copied_there name all file c.args.at c.copy_from.result c.copy_from.new.into c.args.into.now
    found count copied)
