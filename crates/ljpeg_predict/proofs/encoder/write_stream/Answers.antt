use Rattle.std.proofs.Common.{◌≡◌, ◌/◌, ◌++◌, ℕ, List, [], ◌∷◌, length, refl, ap, ◌∙◌, append_assoc}
use Rattle.std.proofs.Transfers.{starts_with_of_append, starts_with_trans}
use Rattle.ljpeg_predict.specs.Encoding.{head, stuffed}
use Rattle.ljpeg_predict.proofs.encoder.write_stream.Goals as goal

pub returns-clause-ok : goal.returns-clause-ok
returns-clause-ok c =
    let shape = c.args.shape in
    let old = c.args.out.now.items in
    let lines = length c.args.samples.now / shape.columns in
    let prefix = head shape.precision lines shape.columns c.args.selection in
    let last = c.in_ok-write_samples.ensures.ok lines in
    let first : c.extend_from_slice.new.self.items ≡ old ++ prefix =
    c.in_ok-extend_from_slice.ensures.items ∙ ap (λ x. old ++ x) c.head_of-head.ensures in
    let end : List ℕ = 255 ∷ 217 ∷ [] in
    let whole : c.extend_from_slice-2.new.self.items ≡ old ++ (prefix ++ stuffed last.stretch ++ end) =
    c.in_ok-extend_from_slice-2.ensures.items
    ∙ ap (λ x. x ++ end) (last.is ∙ ap (λ x. x ++ stuffed last.stretch) first ∙ append_assoc old prefix
    (stuffed last.stretch)) ∙ append_assoc old (prefix ++ stuffed last.stretch) end in (
      prefix ++ stuffed last.stretch ++ end,
      record {
        predictor = shape.predictor;
        chosen = c.requires.predictor;
        stretch = last.stretch;
        ones = last.ones;
        few = last.few;
        digits = last.digits;
        is = refl;
      },
      whole,
    )

pub returns-clause-kept : goal.returns-clause-kept
returns-clause-kept c =
    let first = starts_with_of_append _ _ _ c.in_ok-extend_from_slice.ensures.items in
    let second = starts_with_trans _ _ _ c.in_ok-write_samples.ensures.kept first in
    starts_with_trans _ _ _ (starts_with_of_append _ _ _ c.in_ok-extend_from_slice-2.ensures.items) second
