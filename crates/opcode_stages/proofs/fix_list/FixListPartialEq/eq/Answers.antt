use Rattle.std.proofs.Common.{◌≡◌, sym, ◌∙◌, subst}
use Rattle.std.specs.Bool.{Decides}
use Rattle.opcode_stages.specs.BadPixels.{same_pixels}
use Rattle.opcode_stages.specs.MendEquality.{pixels_equality}
use Rattle.opcode_stages.proofs.fix_list.FixListPartialEq.eq.Goals as goal

pub returns-clause-value : goal.returns-clause-value
unfolding same_pixels
returns-clause-value c = c.eq.ensures ∙ (λ i. same_pixels (c.self.view_is i) (c.other.view_is i))

pub returns-clause-same : goal.returns-clause-same
returns-clause-same c =
    subst (λ b. Decides b (c.args.self.now ≡ c.args.other.now)) (sym (returns-clause-value c))
    (pixels_equality c.args.self.now c.args.other.now)
