use Rattle.std.proofs.lemmas.Result.{err_from_is_err_and}
use Rattle.developer.proofs.Scripts.{script_no_memory}
use Rattle.developer.proofs.script.run_counted.Goals as goal

pub returns-in_err-piece : goal.returns-in_err-piece
returns-in_err-piece g c =
    let p = err_from_is_err_and c.from_residual.result c.from_residual.ensures.1 in
    rw (p.1, p.2)
    (script_no_memory g.C.Source.left g.C.Source.faults g.O.Sink.stands_for g.O.Sink.faults c.args.frame.now
    c.args.script.now c.args.out.now c.args.frame.now)

pub returns-in_err-line : goal.returns-in_err-line
returns-in_err-line g c =
    let p = err_from_is_err_and c.from_residual-in_err-line.result c.from_residual-in_err-line.ensures.1 in
    rw (p.1, p.2)
    (script_no_memory g.C.Source.left g.C.Source.faults g.O.Sink.stands_for g.O.Sink.faults c.args.frame.now
    c.args.script.now c.args.out.now c.args.frame.now)
