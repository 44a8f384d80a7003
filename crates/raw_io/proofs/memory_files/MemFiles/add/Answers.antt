use Rattle.std.proofs.Common.{◌≡◌, ℕ, ◌<◌, ◌≤◌, List, length, ◌∙◌, ap, arith}
use Rattle.raw_io.specs.Memory.{MemoryFiles, contents_of, faults_of}
use Rattle.raw_io.specs.inner.Places.{place_of}
use Rattle.raw_io.specs.contracts.memory_files.MemFiles.{the_view}
use Rattle.raw_io.proofs.Places.{added_there, added_absent, added_contents, added_faults}
use Rattle.raw_io.proofs.memory_files.MemFiles.add.Goals as goal

pub returns-in_ok-self-inside-clause-added : goal.returns-in_ok-self-inside-clause-added
returns-in_ok-self-inside-clause-added c =
    let name = c.args.name.now in
    let all = the_view c.self.inside in
    let at : c.place-at.result ≡ place_of name all.files = cc in
    let within : c.place-at.result < length all.files =
    omega (arith, c.if-at-len.true, c.len.ensures, c.self.inside.files.ok.0) in
    let made : c.in_ok-self-inside.field-0
    ≡ record { name = name; bytes = c.args.bytes.now; faults = c.index.result.now.faults } =
    c.in_ok-self-inside.ensures
    ∙ ap (λ (n : List ℕ). record { name = n; bytes = c.args.bytes.now; faults = c.faults-faults.result })
    c.as_bytes-name.ensures.value
    ∙ ap (λ (n : ℕ). record { name = name; bytes = c.args.bytes.now; faults = n }) c.faults-faults.ensures in
    let added = added_there name c.args.bytes.now all c.args.self.now c.place-at.result c.index.result.now
    c.in_ok-self-inside.field-0 at within c.index.ensures made c.self.view_is in
    added

pub returns-in_ok-self-inside-clause-contents : goal.returns-in_ok-self-inside-clause-contents
returns-in_ok-self-inside-clause-contents c =
    let name = c.args.name.now in
    let all = the_view c.self.inside in
    let at : c.place-at.result ≡ place_of name all.files = cc in
    let within : c.place-at.result < length all.files =
    omega (arith, c.if-at-len.true, c.len.ensures, c.self.inside.files.ok.0) in
    let made : c.in_ok-self-inside.field-0
    ≡ record { name = name; bytes = c.args.bytes.now; faults = c.index.result.now.faults } =
    c.in_ok-self-inside.ensures
    ∙ ap (λ (n : List ℕ). record { name = n; bytes = c.args.bytes.now; faults = c.faults-faults.result })
    c.as_bytes-name.ensures.value
    ∙ ap (λ (n : ℕ). record { name = name; bytes = c.args.bytes.now; faults = n }) c.faults-faults.ensures in
    let added = added_there name c.args.bytes.now all c.args.self.now c.place-at.result c.index.result.now
    c.in_ok-self-inside.field-0 at within c.index.ensures made c.self.view_is in
    λ other. ap (λ (a : MemoryFiles). contents_of a other) added
    ∙ added_contents name c.args.bytes.now c.args.self.now other

pub returns-in_ok-self-inside-clause-counts : goal.returns-in_ok-self-inside-clause-counts
returns-in_ok-self-inside-clause-counts c =
    let name = c.args.name.now in
    let all = the_view c.self.inside in
    let at : c.place-at.result ≡ place_of name all.files = cc in
    let within : c.place-at.result < length all.files =
    omega (arith, c.if-at-len.true, c.len.ensures, c.self.inside.files.ok.0) in
    let made : c.in_ok-self-inside.field-0
    ≡ record { name = name; bytes = c.args.bytes.now; faults = c.index.result.now.faults } =
    c.in_ok-self-inside.ensures
    ∙ ap (λ (n : List ℕ). record { name = n; bytes = c.args.bytes.now; faults = c.faults-faults.result })
    c.as_bytes-name.ensures.value
    ∙ ap (λ (n : ℕ). record { name = name; bytes = c.args.bytes.now; faults = n }) c.faults-faults.ensures in
    let added = added_there name c.args.bytes.now all c.args.self.now c.place-at.result c.index.result.now
    c.in_ok-self-inside.field-0 at within c.index.ensures made c.self.view_is in
    λ other. ap (λ (a : MemoryFiles). faults_of a other) added
    ∙ added_faults name c.args.bytes.now c.args.self.now other

pub returns-in_ok-push-clause-added : goal.returns-in_ok-push-clause-added
returns-in_ok-push-clause-added c =
    let name = c.args.name.now in
    let all = the_view c.self.inside in
    let at : c.place-at.result ≡ place_of name all.files = cc in
    let past : length all.files ≤ c.place-at.result =
    omega (arith, c.if-at-len.false, c.len.ensures, c.self.inside.files.ok.0) in
    let made : c.in_ok-file.file ≡ record { name = name; bytes = c.args.bytes.now; faults = all.others } =
    c.in_ok-file.ensures
    ∙ ap (λ (n : List ℕ). record { name = n; bytes = c.args.bytes.now; faults = all.others })
    c.as_bytes-name.ensures.value in
    let added = added_absent name c.args.bytes.now all c.args.self.now c.place-at.result c.in_ok-file.file
    c.push.new.self.items at past made c.in_ok-push.ensures.items c.self.view_is in
    added

pub returns-in_ok-push-clause-contents : goal.returns-in_ok-push-clause-contents
returns-in_ok-push-clause-contents c =
    let name = c.args.name.now in
    let all = the_view c.self.inside in
    let at : c.place-at.result ≡ place_of name all.files = cc in
    let past : length all.files ≤ c.place-at.result =
    omega (arith, c.if-at-len.false, c.len.ensures, c.self.inside.files.ok.0) in
    let made : c.in_ok-file.file ≡ record { name = name; bytes = c.args.bytes.now; faults = all.others } =
    c.in_ok-file.ensures
    ∙ ap (λ (n : List ℕ). record { name = n; bytes = c.args.bytes.now; faults = all.others })
    c.as_bytes-name.ensures.value in
    let added = added_absent name c.args.bytes.now all c.args.self.now c.place-at.result c.in_ok-file.file
    c.push.new.self.items at past made c.in_ok-push.ensures.items c.self.view_is in
    λ other. ap (λ (a : MemoryFiles). contents_of a other) added
    ∙ added_contents name c.args.bytes.now c.args.self.now other

pub returns-in_ok-push-clause-counts : goal.returns-in_ok-push-clause-counts
returns-in_ok-push-clause-counts c =
    let name = c.args.name.now in
    let all = the_view c.self.inside in
    let at : c.place-at.result ≡ place_of name all.files = cc in
    let past : length all.files ≤ c.place-at.result =
    omega (arith, c.if-at-len.false, c.len.ensures, c.self.inside.files.ok.0) in
    let made : c.in_ok-file.file ≡ record { name = name; bytes = c.args.bytes.now; faults = all.others } =
    c.in_ok-file.ensures
    ∙ ap (λ (n : List ℕ). record { name = n; bytes = c.args.bytes.now; faults = all.others })
    c.as_bytes-name.ensures.value in
    let added = added_absent name c.args.bytes.now all c.args.self.now c.place-at.result c.in_ok-file.file
    c.push.new.self.items at past made c.in_ok-push.ensures.items c.self.view_is in
    λ other. ap (λ (a : MemoryFiles). faults_of a other) added
    ∙ added_faults name c.args.bytes.now c.args.self.now other
