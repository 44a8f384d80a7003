use Rattle.std.proofs.Common.{◌≡◌, ℕ, ◌+◌, ◌-◌, ◌*◌, ◌∙◌, Bool, if◌then◌else◌, get_or, ap, arith}
use Rattle.plane_view.specs.Lent.{sample_at}
use Rattle.opcode_stages.specs.Mends.{mended_at, mean_or, good_sum, good_count, steps_of, is_green}
use Rattle.opcode_stages.proofs.Mending.{mended_more}
use Rattle.opcode_stages.proofs.defects.fill_row.Goals as goal

pub loop-c-preserved : goal.loop-c-preserved
loop-c-preserved g c =
    let held = c.loop-c.invariant in
    let next = c.next_bad-c-in-loop-c.ensures in
    let rect = c.args.rect in
    let at = sample_at c.args.input.now in
    let bad = g.D.Defects.bad c.args.defects.now at in
    let whole = c.args.whole in
    let not_before = next.not_before in
    record {
      not_before = omega arith;
      not_past = next.not_past;
      found = next.found;
      mended = mended_more (bad c.args.r) _ _ rect.left rect.right c.loop-c.c c.next_bad-c-in-loop-c.result
          c.mend.result c.loop-c.out
          (λ k good. ap (λ (b : Bool). if b then mean_or (at c.args.r k 0)
          (good_sum bad whole.rows whole.cols at c.args.r k (steps_of (is_green c.args.phase c.args.r k)))
          (good_count bad whole.rows whole.cols c.args.r k (steps_of (is_green c.args.phase c.args.r k))) else at
          c.args.r k 0) good)
          held.not_before c.loop-c-test.true (omega arith) c.mend.ensures next held.mended;
    }

pub returns : goal.returns
returns g c =
    let held = c.loop-c.invariant in
    let at = sample_at c.args.input.now in
    let bad = g.D.Defects.bad c.args.defects.now at in
    let whole = c.args.whole in
    let left = c.args.rect.left in
    let past = c.loop-c-test.false in
    record {
      samples = λ k p pixel plane.
          let none : 0 ≡ p = omega arith in
          let place : (k - left) * 1 + p ≡ k - left = omega arith in
          let within = pixel.right in
          ap (λ (n : ℕ). get_or c.loop-c.out n 0) place ∙ held.mended.done k pixel.left (omega arith)
          ∙ ap (λ (q : ℕ). mended_at bad c.args.phase whole.rows whole.cols at c.args.r k q) none;
    }
