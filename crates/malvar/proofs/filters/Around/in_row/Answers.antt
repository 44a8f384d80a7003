use Rattle.std.proofs.Common.{◌∙◌, ap}
use Rattle.malvar.specs.Demosaic.{rounded}
use Rattle.malvar.proofs.Sums.{in_row_sum}
use Rattle.malvar.proofs.filters.Around.in_row.Goals as goal

pub returns-in-Malvar : goal.returns-in-Malvar
returns-in-Malvar c = rw c.in-Malvar.is (c.scaled.ensures ∙ ap rounded (in_row_sum c.args.self))
