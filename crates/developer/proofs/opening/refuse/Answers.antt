use Rattle.std.proofs.Common.{inl, inr, refl, sym, take, drop}
use Rattle.std.proofs.lemmas.List.{take-append-drop}
use Rattle.std.proofs.Transfers.{starts_with_of_append, starts_with_of_eq}
use Rattle.developer.proofs.opening.refuse.Goals as goal

pub returns-in-Ok : goal.returns-in-Ok
returns-in-Ok g c = record {
  written = c.args.line.now;
  appended = c.in-Ok.ensures.whole;
  prefix = starts_with_of_eq c.args.line.now c.args.line.now refl;
  counts = c.write_bytes.ensures.counts;
  outcome = inl (refl, refl);
}

pub returns-in-Err : goal.returns-in-Err
returns-in-Err g c = record {
  written = take c.in-Err.fault.written c.args.line.now;
  appended = c.in-Err.ensures.prefix;
  prefix = starts_with_of_append c.args.line.now (take c.in-Err.fault.written c.args.line.now)
      (drop c.in-Err.fault.written c.args.line.now)
      (sym (take-append-drop c.in-Err.fault.written c.args.line.now));
  counts = c.write_bytes.ensures.counts;
  outcome = inr (c.into.ensures, c.in-Err.ensures.cause);
}
