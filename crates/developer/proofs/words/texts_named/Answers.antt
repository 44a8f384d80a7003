use Rattle.std.proofs.Common.{map, string_bytes, ◌∙◌}
use Rattle.clap.specs.Words.{app_of, found_of}
use Rattle.developer.proofs.NamedWords.{named_words-refused, named_words-taken, texts_in-found, texts_in-none}
use Rattle.developer.proofs.words.texts_named.Goals as goal
use Rattle.developer.proofs.words.texts_named.Goals.{in-OutOfMemory, in_default}

-- memory apart, an error of the command refuses the words
pub returns-in-Err : goal.returns-in-Err
returns-in-Err c = elim c.match-kind.branch [
  | in-OutOfMemory w ↦ rw w.result-is tt
  | in_default w ↦ rw w.result-is (named_words-refused (app_of c.in_ok-command.command)
      (map (λ s. string_bytes s) c.args.words.now) c.in-Err.error
      c.in_ok-command.ensures c.in-Err.ensures.kinds (λ h. w.in_default.not-OutOfMemory (c.kind.ensures ∙ h)))
]

pub returns-in_default-get_str : goal.returns-in_default-get_str
returns-in_default-get_str c =
    texts_in-none (found_of c.in-Ok.matches) c.in_default-get_str.ensures
    ∙ named_words-taken (app_of c.in_ok-command.command) (map (λ s. string_bytes s) c.args.words.now)
    (found_of c.in-Ok.matches) _
    c.in_ok-command.ensures c.in-Ok.ensures.matches c.in-Ok.ensures.kinds

pub returns : goal.returns
returns c =
    texts_in-found (found_of c.in-Ok.matches) _ _ _ _ c.in-Some.ensures c.get_str-2.ensures c.get_str-3.ensures
    c.get_str-4.ensures
    ∙ named_words-taken (app_of c.in_ok-command.command) (map (λ s. string_bytes s) c.args.words.now)
    (found_of c.in-Ok.matches) _
    c.in_ok-command.ensures c.in-Ok.ensures.matches c.in-Ok.ensures.kinds
