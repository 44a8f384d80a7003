use Rattle.std.proofs.Common.{◌≡◌, length, arith}
use Rattle.std.proofs.lemmas.Bool.Decides.{nat_tests}
use Rattle.std.proofs.Math.Nat.{mod-eq_of_lt}
use Rattle.dng_tags.proofs.SpanLemmas.{none_greatest}
use Rattle.dng_tags.proofs.span.greatest_on.Goals as goal

pub loop-k-init : goal.loop-k-init
loop-k-init c = record {
  bound = λ k before falls. absurd (omega (arith, before));
  there = record { within = c.requires.some; place = mod-eq_of_lt c.requires.place };
}

pub returns-then-is_empty-clause-greatest : goal.returns-then-is_empty-clause-greatest
returns-then-is_empty-clause-greatest c =
    let none : length c.args.deltas.now ≡ 0 = grind (arith, nat_tests) in
    none_greatest c.args.deltas.now c.args.count c.args.step c.args.first none c.requires.place c.requires.some
