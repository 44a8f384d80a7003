use Rattle.std.proofs.Common.{arith}
use Rattle.linearise.proofs.Rescaling.{part_is, part_small}
use Rattle.linearise.proofs.scale.Scale.part.Goals as goal

pub overflow_cast-result-2 : goal.overflow_cast-result-2
overflow_cast-result-2 c =
    let s = c.args.self in
    let x = c.args.held in
    let same = part_is s.span s.high s.low s.half s.shift x s.exact c.requires in
    let small = part_small s.span x s.exact.some c.requires in
    rw (c.from-held.ensures, c.from.ensures, c.from-2.ensures, same) (record { fits = omega (arith, small) })

pub returns : goal.returns
returns c =
    let s = c.args.self in
    rw (c.from-held.ensures, c.from.ensures, c.from-2.ensures) (part_is s.span s.high s.low s.half s.shift c.args.held
    s.exact c.requires)
