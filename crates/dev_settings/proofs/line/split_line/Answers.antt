use Rattle.std.proofs.Common.{sym, refl}
use Rattle.dev_settings.proofs.LineLemmas.{contains_end, contains_no_end, parts_at_end, lines_at_end, lines_of_none}
use Rattle.dev_settings.proofs.PlaceLemmas.{position_none}
use Rattle.dev_settings.proofs.line.split_line.Goals as goal

pub returns-in_err-end-clause-found : goal.returns-in_err-end-clause-found
returns-in_err-end-clause-found c =
    rw c.from_residual.ensures (
      λ some. absurd cc,
      λ has. absurd (contains_no_end c.args.bytes.now (sym c.in_err-end.ensures) has),
    )

pub returns-in_err-end-clause-lines : goal.returns-in_err-end-clause-lines
returns-in_err-end-clause-lines c =
    rw c.from_residual.ensures
    (lines_of_none c.args.bytes.now (position_none _ c.args.bytes.now (sym c.in_err-end.ensures)))

pub returns-clause-found : goal.returns-clause-found
returns-clause-found c = (λ _. contains_end c.args.bytes.now _ (sym c.in_ok-end.ensures), λ _. refl)

pub returns-clause-parts : goal.returns-clause-parts
returns-clause-parts c = parts_at_end c.args.bytes.now _ (sym c.in_ok-end.ensures)

pub returns-clause-lines : goal.returns-clause-lines
returns-clause-lines c = lines_at_end c.args.bytes.now _ (sym c.in_ok-end.ensures)
