use Rattle.std.proofs.Common.{◌≡◌, ◌+◌, ◌≤◌, ◌++◌, length, option_map}
use Rattle.dev_settings.specs.Commands.{integer_of}
use Rattle.dev_settings.specs.Values.{each}
use Rattle.dev_settings.proofs.command.integers.Given as goal

-- the integers so far, before those of the words that are left
abbrev pub invariant-loop-word : goal.invariant-loop-word
invariant-loop-word l = record {
  few : length l.list ≤ 32;
  count : length l.list + length l.words ≡ length l.fn.words;
  so_far : option_map (λ rest. l.list ++ rest) (each (integer_of l.minus) l.words) ≡ each (integer_of l.minus)
      l.fn.words;
}

abbrev pub decreases-loop-word : goal.decreases-loop-word
decreases-loop-word l = length l.words
