use Rattle.std.proofs.Common.{◌≡◌, drop, sym, ◌∙◌}
use Rattle.std.proofs.lemmas.List.{take_rest}
use Rattle.std.specs.List.{position_or_len}
use Rattle.dev_settings.proofs.PlaceLemmas.{unwrap_or-position}
use Rattle.dev_settings.proofs.WordLemmas.{is_space, words_none, words_first}
use Rattle.dev_settings.proofs.word.first_word.Goals as goal

pub returns-in_err-line : goal.returns-in_err-line
returns-in_err-line c = rw c.from_residual.ensures (words_none c.args.line.now (sym c.in_err-line.ensures))

pub returns : goal.returns
returns c =
    let line = c.args.line.now in
    let start = c.in_ok-line.field-0 in
    let rest = take_rest line start in
    let place : c.unwrap_or-end.result ≡ position_or_len is_space (drop start line) =
    c.unwrap_or-end.ensures ∙ rw (c.first_space.ensures, rest) (unwrap_or-position is_space (drop start line)) in
    rw (c.split_at.ensures.front, c.split_at.ensures.back, rest, place)
    (words_first line start (sym c.in_ok-line.ensures))
