use Rattle.std.specs.Cmp.{signed_Decides}
use Rattle.std.proofs.lemmas.Slice.Eq.{slice_eq-Decides}
use Rattle.colour_matrix.proofs.matrix.Matrix.is_same.Goals as goal

pub returns : goal.returns
returns c =
    let decides = slice_eq-Decides signed_Decides c.args.self.now c.args.other.now c.eq.result c.eq.ensures in
    (decides.0, decides.1)
