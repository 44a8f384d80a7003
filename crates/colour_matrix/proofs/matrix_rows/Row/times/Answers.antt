use Rattle.colour_matrix.proofs.Raised.{product_is}
use Rattle.colour_matrix.proofs.matrix_rows.Row.times.Goals as goal

pub returns : goal.returns
returns c = λ red green blue is.
    let product = product_is red green blue c.args.self c.args.pixel.red c.args.pixel.green c.args.pixel.blue is in
    cc
