use Rattle.std.proofs.Common.{◌/◌, ◌^◌, arith}
use Rattle.strip_unpack.proofs.Unpacking.{masked}
use Rattle.strip_unpack.proofs.groups.field.Goals as goal

pub returns : goal.returns
returns c = masked 64 c.args.depth (c.args.register / 2 ^ c.args.below) (omega arith)
