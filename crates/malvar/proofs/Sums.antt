-- The four weighted sums of Malvar, He and Cutler as differences of two numbers.
use Rattle.std.proofs.Common.{◌≡◌, ◌+◌, ◌*◌, pos, ◌-ℤ◌, arith}
use Rattle.std.proofs.lemmas.Int.{ints}
use Rattle.malvar.specs.Demosaic.{malvar}
use Rattle.malvar.specs.inner.Around.{weighted}
use Rattle.malvar.specs.declared.filters.Around.{Around}

pub green_sum : (a : Around) → pos (8 * a.centre + 4 * (a.horizontal + a.vertical))
    -ℤ pos (2 * (a.horizontal_far + a.vertical_far)) ≡ weighted malvar.green a
green_sum a = omega (arith, ints)

pub in_row_sum : (a : Around) → pos (10 * a.centre + 8 * a.horizontal + a.vertical_far)
    -ℤ pos (2 * (a.diagonal + a.horizontal_far)) ≡ weighted malvar.in_row a
in_row_sum a = omega (arith, ints)

pub in_column_sum : (a : Around) → pos (10 * a.centre + 8 * a.vertical + a.horizontal_far)
    -ℤ pos (2 * (a.diagonal + a.vertical_far)) ≡ weighted malvar.in_column a
in_column_sum a = omega (arith, ints)

pub opposite_sum : (a : Around) → pos (12 * a.centre + 4 * a.diagonal) -ℤ pos (3 * (a.horizontal_far + a.vertical_far))
    ≡ weighted malvar.opposite a
opposite_sum a = omega (arith, ints)
