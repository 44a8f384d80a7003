use Rattle.std.proofs.Common.{◌∙◌, ap}
use Rattle.malvar.specs.Demosaic.{rounded}
use Rattle.malvar.proofs.Sums.{in_column_sum}
use Rattle.malvar.proofs.filters.Around.in_column.Goals as goal

pub returns-in-Malvar : goal.returns-in-Malvar
returns-in-Malvar c = rw c.in-Malvar.is (c.scaled.ensures ∙ ap rounded (in_column_sum c.args.self))
