use Rattle.std.proofs.Common.{◌+◌, ◌-◌}
use Rattle.developer.specs.Transcript.{max_script}
use Rattle.developer.proofs.Scripts.{ScriptSoFar}
use Rattle.developer.proofs.script.answer_script.Given as goal

-- the complete lines of what was taken were answered
abbrev pub invariant-loop-taken : goal.invariant-loop-taken
invariant-loop-taken g l =
    ScriptSoFar g.C.Source.left g.C.Source.faults g.O.Sink.stands_for g.O.Sink.faults l.fn.frame l.fn.script l.fn.out
    l.script l.out l.line.items l.frame l.taken

-- how many bytes may come
abbrev pub decreases-loop-taken : goal.decreases-loop-taken
decreases-loop-taken g l = (max_script + 1) - l.taken
