use Rattle.program_tests.proofs.cells.in_turn.Goals as goal

pub with_root-requires-clause-frame : goal.with_root-requires-clause-frame
with_root-requires-clause-frame c = (c.args.file.now, c.in-Ok.ensures.frame)

pub with_root-requires-2-clause-frame : goal.with_root-requires-2-clause-frame
with_root-requires-2-clause-frame c = (c.args.file.now, c.in-Ok.ensures.frame)
