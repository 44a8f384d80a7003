use Rattle.std.proofs.Common.{◌∙◌, arith, length-drop}
use Rattle.std.proofs.lemmas.List.{take_rest}
use Rattle.raw_io.proofs.Pieces.{appends_more}
use Rattle.raw_io.proofs.whole.write_all.Goals as goal

pub loop-written-preserved : goal.loop-written-preserved
loop-written-preserved g c = record {
  within = omega (arith, c.in-Ok.ensures.within, length-drop c.loop-written.written c.args.bytes.now);
  no_fault = c.in-Ok.ensures.no_fault ∙ c.loop-written.invariant.no_fault;
  appended = appends_more g.O.Sink.stands_for _ _ _ c.args.bytes.now _ c.loop-written.written c.in-Ok.count
      (take_rest c.args.bytes.now c.loop-written.written) c.loop-written.invariant.appended c.in-Ok.ensures.appended;
}
