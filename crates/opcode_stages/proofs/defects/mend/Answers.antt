use Rattle.std.proofs.Common.{◌≡◌, ◌+◌, ◌<◌, ◌≤◌, ◌∙◌, sym, ap, take, length, arith}
use Rattle.plane_view.specs.Lent.{sample_at}
use Rattle.opcode_stages.specs.declared.steps.Step.{Step}
use Rattle.opcode_stages.specs.Mends.{steps_of}
use Rattle.opcode_stages.proofs.Mending.{Counted, counted_good, counted_bad, mended_so, mean_of_some, four_steps}
use Rattle.opcode_stages.proofs.defects.mend.Goals as goal
use Rattle.opcode_stages.proofs.defects.mend.Goals.{in-Some, in_default}

pub loop-step-preserved : goal.loop-step-preserved
loop-step-preserved g c =
    let L = c.args.input.now in
    let bad = g.D.Defects.bad c.args.defects.now (sample_at L) in
    let whole = c.args.whole in
    let r = c.args.r in
    let k = c.args.c in
    let steps = c.steps_of-step-items.result in
    let i = c.loop-step.step-index in
    let none : Step = record { up = 0; down = 0; left = 0; right = 0 } in
    let held = c.loop-step.invariant in
    let so_far : Counted bad whole.rows whole.cols (sample_at L) r k (take i steps) c.loop-step.sum c.loop-step.count =
    record { count = held.count; sum = held.sum } in
    let few = held.few in
    let most = held.most in
    let four : length steps ≡ 4 = ap (λ xs. length xs) c.steps_of-step-items.ensures.steps ∙ four_steps _ in
    let below = c.loop-step-test.true in
    let within : i < length steps = omega arith in
    elim c.match-good_near.branch [
      | in-Some w ↦ (
          let total = w.sum-is in
          let number = w.count-is in
          let added = w.from-sum.ensures in
          let small : w.in-Some.sample ≤ 65535 = w.in-Some.ensures.small in
          let now = counted_good bad whole.rows whole.cols (sample_at L) r k steps i none c.loop-step.sum
          c.loop-step.count w.in-Some.sample within (sym w.in-Some.is ∙ c.good_near.ensures.sample) so_far in
          record {
            count = number ∙ now.count;
            sum = total ∙ ap (λ n. c.loop-step.sum + n) added ∙ now.sum;
            few = omega arith;
            most = omega arith;
          })
      | in_default w ↦ (
          let total = w.sum-is in
          let number = w.count-is in
          let now = counted_bad bad whole.rows whole.cols (sample_at L) r k steps i none c.loop-step.sum
          c.loop-step.count within (sym w.in_default.is ∙ c.good_near.ensures.sample) so_far in
          record { count = number ∙ now.count; sum = total ∙ now.sum; few = omega arith; most = omega arith })
    ]

pub returns-else-count-eq0 : goal.returns-else-count-eq0
returns-else-count-eq0 g c =
    let L = c.args.input.now in
    let bad = g.D.Defects.bad c.args.defects.now (sample_at L) in
    let whole = c.args.whole in
    let held = c.loop-step.invariant in
    let past = c.loop-step-test.false in
    let four : length c.steps_of-step-items.result ≡ 4 = ap (λ xs. length xs) c.steps_of-step-items.ensures.steps
    ∙ four_steps _ in
    mean_of_some (sample_at L c.args.r c.args.c 0) c.loop-step.sum c.loop-step.count c.if-count-eq0.false
    ∙ mended_so bad c.args.phase whole.rows whole.cols (sample_at L) c.args.r c.args.c c.steps_of-step-items.result
    c.loop-step.step-index c.loop-step.sum c.loop-step.count c.requires.bad
    (c.steps_of-step-items.ensures.steps ∙ ap (λ green. steps_of green) c.is_green.ensures) (omega arith)
    (record { count = held.count; sum = held.sum })
