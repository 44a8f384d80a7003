use Rattle.std.proofs.Common.{[], refl, arith, map, string_bytes}
use Rattle.developer.proofs.Endings.{frame_promises, refused_promises}
use Rattle.std.proofs.KnownBytes.{Consumes-nil}
use Rattle.developer.proofs.program.run.Goals as goal

pub returns-in-Ok : goal.returns-in-Ok
returns-in-Ok g c =
    let r = rw c.in-Ok.ensures.untouched at c.run_script-ended.ensures in
    let asks = c.in-Ok.ensures.words in (
      r.written,
      r.taken,
      r.appends,
      r.takes,
      frame_promises g.C.Source.left g.C.Source.faults g.O.Sink.faults c.args.script.now c.run_script-ended.new.script
          c.args.out.now c.run_script-ended.new.out (map string_bytes c.args.words.now)
          (g.F.Files.told c.args.files.now) (g.F.Files.told c.open.new.files) (g.F.Files.faults c.args.files.now)
          (g.F.Files.faults c.open.new.files) c.args.tally.now c.close_after.new.tally r.written r.taken
          c.in-Ok.frame c.run_script-ended.new.frame asks.0 asks.1 c.in-Ok.ensures.opened r.takes c.status_after.result
          c.run_script-ended.result c.status_after.ensures r.outcome
          c.close_after.ensures c.in-Ok.ensures.fresh.1
          (record { told = c.in-Ok.ensures.told; files = c.in-Ok.ensures.files; script = r.script; sink = r.sink }),
    )

pub returns : goal.returns
returns g c =
    let r = c.in-Err.ensures.ended (g.C.Source.left c.args.script.now) (g.C.Source.faults c.args.script.now)
    c.args.tally.now in (
      r.0,
      [],
      r.1,
      Consumes-nil (g.C.Source.left c.args.script.now),
      refused_promises _ _ c.in-Err.ending c.status.ensures refl refl
          (record {
            told = c.in-Err.ensures.told;
            files = c.in-Err.ensures.files;
            script = omega arith;
            sink = c.in-Err.ensures.sink;
          }) r.2,
    )
