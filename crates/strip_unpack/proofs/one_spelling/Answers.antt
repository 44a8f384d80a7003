use Rattle.strip_unpack.proofs.Formula.{formula_alone, formula_spelled}
use Rattle.strip_unpack.proofs.one_spelling.Goals as goal

pub returns : goal.returns
returns c order depth rows cols bytes most long = record {
  spelled = formula_spelled order depth rows cols bytes most long;
  only = λ others h. formula_alone order depth rows cols bytes others most long h;
}
