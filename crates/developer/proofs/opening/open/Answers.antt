use Rattle.std.proofs.Common.{[], inl, refl, sym, ◌∙◌, ap, arith, map, string_bytes}
use Rattle.developer.specs.Run.{Call}
use Rattle.developer.specs.inner.Shown.{options_view}
use Rattle.developer.proofs.Endings.{nothing_answered, nothing_prefix}
use Rattle.raw_io.proofs.Pieces.{appends_nothing}
use Rattle.developer.proofs.opening.open.Goals as goal

pub returns-in-Err-clause-ended : goal.returns-in-Err-clause-ended
returns-in-Err-clause-ended g c left script_faults tally =
    let called : Call = record {
      words = map string_bytes c.args.words.now;
      before = record {
        told = g.F.Files.told c.args.files.now;
        file_faults = g.F.Files.faults c.args.files.now;
        left = left;
        script_faults = script_faults;
        sink_faults = g.O.Sink.faults c.args.out.now;
        tally = tally;
      };
      after = record {
        told = g.F.Files.told c.args.files.now;
        file_faults = g.F.Files.faults c.args.files.now;
        left = left;
        script_faults = script_faults;
        sink_faults = g.O.Sink.faults c.args.out.now;
        tally = tally;
      };
      written = [];
      taken = [];
    } in
    ([], appends_nothing g.O.Sink.stands_for c.args.out.now, nothing_prefix called refl)

pub returns-in-Err-Memory-clause-ended : goal.returns-in-Err-Memory-clause-ended
returns-in-Err-Memory-clause-ended g c left script_faults tally =
    let called : Call = record {
      words = map string_bytes c.args.words.now;
      before = record {
        told = g.F.Files.told c.args.files.now;
        file_faults = g.F.Files.faults c.args.files.now;
        left = left;
        script_faults = script_faults;
        sink_faults = g.O.Sink.faults c.args.out.now;
        tally = tally;
      };
      after = record {
        told = g.F.Files.told c.read_frame_file.new.files;
        file_faults = g.F.Files.faults c.read_frame_file.new.files;
        left = left;
        script_faults = script_faults;
        sink_faults = g.O.Sink.faults c.args.out.now;
        tally = tally;
      };
      written = [];
      taken = [];
    } in
    ([], appends_nothing g.O.Sink.stands_for c.args.out.now, nothing_prefix called refl)

pub returns-in-Err-Unread-clause-ended : goal.returns-in-Err-Unread-clause-ended
returns-in-Err-Unread-clause-ended g c left script_faults tally =
    let called : Call = record {
      words = map string_bytes c.args.words.now;
      before = record {
        told = g.F.Files.told c.args.files.now;
        file_faults = g.F.Files.faults c.args.files.now;
        left = left;
        script_faults = script_faults;
        sink_faults = g.O.Sink.faults c.args.out.now;
        tally = tally;
      };
      after = record {
        told = g.F.Files.told c.read_frame_file.new.files;
        file_faults = g.F.Files.faults c.read_frame_file.new.files;
        left = left;
        script_faults = script_faults;
        sink_faults = g.O.Sink.faults c.args.out.now;
        tally = tally;
      };
      written = [];
      taken = [];
    } in (
      [],
      appends_nothing g.O.Sink.stands_for c.args.out.now,
      (
        omega arith,
        λ none. refl,
        nothing_answered called refl refl,
        (
          _,
          sym c.in-Ok-Some.ensures ∙ ap options_view c.in-Ok-Some.field-0-is,
          inl (rw c.in-Err-Unread.field-0-is at c.in-Err-Unread.ensures.opens),
        ),
      ),
    )
