use Rattle.std.proofs.Common.{◌≡◌, ℕ, ◌^◌, ◌≤◌, List, length, Option, sym, subst, arith}
use Rattle.std.specs.Prelude.{IfSome}
use Rattle.std.proofs.lemmas.Result.{err_from_is_err_and}
use Rattle.developer.specs.inner.Opens.{Opens}
use Rattle.developer.specs.inner.Shown.{option_view}
use Rattle.developer.proofs.Openings.{file_refuses, file_unread, opens_either}
use Rattle.developer.proofs.opening.read_frame_file.Goals as goal

pub returns-in_err-memory-clause-opens : goal.returns-in_err-memory-clause-opens
returns-in_err-memory-clause-opens g c =
    let p = err_from_is_err_and c.from_residual.result c.from_residual.ensures.1 in
    rw (p.1, p.2) (file_unread (g.F.Files.told c.args.files.now) (g.F.Files.faults c.args.files.now)
    (g.F.Files.faults c.read_all.new.files) (option_view c.args.options.now) _ c.in_err-memory.ensures.too_long
    c.in_err-memory.ensures.failed)

pub returns-in_err-frame-clause-opens : goal.returns-in_err-frame-clause-opens
returns-in_err-frame-clause-opens g c =
    let p = err_from_is_err_and c.from_residual-in_err-frame.result c.from_residual-in_err-frame.ensures.1 in
    let bytes : List ℕ = c.deref-bytes.result.now in
    let short : length bytes ≤ 2 ^ 28 = omega (arith, c.in_ok-memory.ensures.within, c.deref-bytes.ensures.len) in
    let told = subst (λ (b : List ℕ). IfSome (g.F.Files.told c.args.files.now c.args.options.now.frame.now)
    (λ all. b ≡ all)) (sym c.deref-bytes.ensures.value) c.in_ok-memory.ensures.whole in
    rw (p.1, p.2)
    (file_refuses (g.F.Files.told c.args.files.now) (g.F.Files.faults c.args.files.now)
    (g.F.Files.faults c.read_all.new.files) (option_view c.args.options.now) bytes told short
    c.in_err-frame.field-0.0 c.in_err-frame.ensures.answer)

pub returns-clause-opens : goal.returns-clause-opens
returns-clause-opens g c =
    let bytes : List ℕ = c.deref-bytes.result.now in
    let short : length bytes ≤ 2 ^ 28 = omega (arith, c.in_ok-memory.ensures.within, c.deref-bytes.ensures.len) in
    let told = subst (λ (b : List ℕ). IfSome (g.F.Files.told c.args.files.now c.args.options.now.frame.now)
    (λ all. b ≡ all)) (sym c.deref-bytes.ensures.value) c.in_ok-memory.ensures.whole in
    let as_before : g.F.Files.told c.read_all.new.files ≡ g.F.Files.told c.args.files.now =
    λ i name. c.in_ok-memory.ensures.contents name i in
    opens_either (g.F.Files.told c.args.files.now) (g.F.Files.faults c.args.files.now)
    (g.F.Files.faults c.open_frame.new.files) (option_view c.args.options.now) bytes told short
    c.in_ok-frame.frame c.in_ok-frame.ensures.answer (g.F.Files.faults c.read_all.new.files)
    c.in_ok-memory.ensures.counts c.open_frame.result
    (subst (λ (told : List ℕ → Option (List ℕ)). Opens told (g.F.Files.faults c.read_all.new.files)
    (g.F.Files.faults c.open_frame.new.files) (option_view c.args.options.now)
    (record { bytes = bytes; frame = c.in_ok-frame.frame }) c.open_frame.result)
    as_before c.open_frame.ensures.opens)
