use Rattle.std.proofs.Common.{◌≡◌, ℕ, ◌<◌, pos, true, take, get_or}
use Rattle.std.specs.List.{list_all}
use Rattle.tag_rules.specs.Quantities.{IsWithin, in_parts, is_on}
use Rattle.tag_rules.proofs.quantities.Scale.read.Given as goal

abbrev pub invariant-loop-i : goal.invariant-loop-i
invariant-loop-i l = record {
  all : list_all (is_on l.self) (take l.i l.fractions) ≡ true;
  parts : (k : ℕ) → k < l.i → get_or l.out k (pos 0) ≡ in_parts l.self.parts (get_or l.fractions k (pos 0, pos 0));
  within : (k : ℕ) → k < l.i → IsWithin l.self.most (get_or l.out k (pos 0));
}
