use Rattle.std.proofs.Common.{ℕ, List, sym, subst, ◌≡◌}
use Rattle.std.specs.Prelude.{IfSome}
use Rattle.std.proofs.lemmas.Result.{err_from_is_err_and}
use Rattle.developer.proofs.SettingsFiles.{settings_read, settings_unread}
use Rattle.developer.proofs.settings.read_settings.Goals as goal

pub returns-in_err-bytes-clause-reads : goal.returns-in_err-bytes-clause-reads
returns-in_err-bytes-clause-reads g c =
    let p = err_from_is_err_and c.from_residual.result c.from_residual.ensures.1 in
    rw (p.1, p.2) (settings_unread _ _ _ _ _ c.in_err-bytes.ensures.too_long c.in_err-bytes.ensures.failed)

pub returns-clause-reads : goal.returns-clause-reads
returns-clause-reads g c =
    let told = subst (λ (b : List ℕ). IfSome (g.F.Files.told c.args.files.now c.args.name.now) (λ all. b ≡ all))
    (sym c.deref.ensures.value) c.in_ok-bytes.ensures.whole in
    settings_read _ _ _ _ c.deref.result.now _ told c.settings_for.ensures
