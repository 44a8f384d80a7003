use Rattle.std.proofs.Common.{◌+◌, ◌*◌, ◌<◌, ◌≤◌, ◌^◌, ◌/◌, ◌%◌, ℕ, subst, sym, arith}
use Rattle.std.proofs.Math.Nat.{pow-le-pow_right}
use Rattle.std.proofs.lemmas.Nat.{one_shl}
use Rattle.linearise.specs.inner.Scales.{IsFactor}
use Rattle.linearise.proofs.Rescaling.{halves}
use Rattle.linearise.proofs.scale.Scale.by.Goals as goal

pub invariant_of-result : goal.invariant_of-result
invariant_of-result c =
    let span = c.args.span in
    let half = one_shl (c.args.shift + 31) 64 (omega (arith, c.requires.shift)) in
    let factor = halves c.args.factor in
    let now : IsFactor span (2 ^ (c.args.shift + 31)) (c.args.factor / 2 ^ 32 * 2 ^ 32 + c.args.factor % 2 ^ 32) =
    subst (λ (m : ℕ). IsFactor span (2 ^ (c.args.shift + 31)) m) (sym factor) c.requires.factor in
    let short : c.args.shift + 31 ≤ 58 = omega (arith, c.requires.shift) in
    let two : 0 < 2 = omega arith in
    let most : 2 ^ (c.args.shift + 31) ≤ 2 ^ 58 = pow-le-pow_right two short in
    record {
      exact = record {
        some = c.requires.some;
        most = c.requires.most;
        short = c.requires.shift;
        half_is = half;
        half_most = rw half most;
        wide = rw half c.requires.wide;
        factor = subst (λ (m : ℕ). IsFactor span m (c.args.factor / 2 ^ 32 * 2 ^ 32 + c.args.factor % 2 ^ 32))
            (sym half) now;
      };
    }
