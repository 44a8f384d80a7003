use Rattle.std.proofs.Common.{arith}
use Rattle.std.proofs.lemmas.Int.{ints}
use Rattle.linearise.proofs.frame_spans.Goals as goal

pub returns : goal.returns
returns c levels rows cols are below = omega (arith, ints, are.span, below)
