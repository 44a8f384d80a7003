use Rattle.linearise.proofs.Rescaling.{short_is}
use Rattle.linearise.proofs.scale.Scale.short_part.Goals as goal

pub returns : goal.returns
returns c =
    let s = c.args.self in
    rw (c.from.ensures, c.from-2.ensures, c.from-3.ensures) (short_is s.span s.high s.low s.half s.shift c.args.held
    s.exact c.requires.short c.requires.held)
