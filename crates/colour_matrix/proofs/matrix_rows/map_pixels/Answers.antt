use Rattle.std.proofs.Common.{arith}
use Rattle.colour_matrix.specs.Matrices.{entry_at}
use Rattle.colour_matrix.proofs.Pixels.{matrixed_more}
use Rattle.colour_matrix.proofs.matrix_rows.map_pixels.Goals as goal

pub loop-k-preserved : goal.loop-k-preserved
loop-k-preserved c = λ m rows.
    rw c.put.ensures
    (matrixed_more m c.args.from.now c.loop-k.out c.loop-k.k c.times-red.result c.times-green.result c.times-blue.result
    (omega arith)
    (c.times-red.ensures (entry_at m 0 0) (entry_at m 0 1) (entry_at m 0 2) (rows 0 (omega arith)))
    (c.times-green.ensures (entry_at m 1 0) (entry_at m 1 1) (entry_at m 1 2) (rows 1 (omega arith)))
    (c.times-blue.ensures (entry_at m 2 0) (entry_at m 2 1) (entry_at m 2 2) (rows 2 (omega arith)))
    (c.loop-k.invariant m rows))

pub times-red-requires : goal.times-red-requires
times-red-requires c = c.requires.digits 0 (omega arith)

pub times-green-requires : goal.times-green-requires
times-green-requires c = c.requires.digits 1 (omega arith)

pub times-blue-requires : goal.times-blue-requires
times-blue-requires c = c.requires.digits 2 (omega arith)
