use Rattle.colour_matrix.proofs.Digits.{balanced_is}
use Rattle.colour_matrix.proofs.digit_products.balanced.Goals as goal

pub returns : goal.returns
returns c = λ gain exposure digits.
    let is = balanced_is c.args.sample gain exposure c.args.top c.args.high c.args.low digits in
    cc
