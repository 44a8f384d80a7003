use Rattle.std.proofs.Common.{◌≢◌, ◌%◌, ◌-◌, arith, sym, ◌∙◌}
use Rattle.ljpeg_predict.proofs.EncodeLemmas.{at_start, in_first_column, in_first_line, within}
use Rattle.ljpeg_predict.proofs.encoder.predicted_at.Goals as goal

pub returns-then-place-eq0 : goal.returns-then-place-eq0
returns-then-place-eq0 c =
    λ lines. at_start c.args.shape.precision lines c.args.shape.columns c.args.place c.args.shape.predictor
    c.args.samples.now c.if-place-eq0.true

pub returns-then-place-shape : goal.returns-then-place-shape
returns-then-place-shape c =
    λ lines. in_first_line c.args.shape.precision lines c.args.shape.columns c.args.place c.args.shape.predictor
    c.args.samples.now c.if-place-eq0.false c.if-place-shape.true (omega (arith, c.type_inv.samples (c.args.place - 1)))

pub returns-then-column-eq0 : goal.returns-then-column-eq0
returns-then-column-eq0 c =
    λ lines. in_first_column c.args.shape.precision lines c.args.shape.columns c.args.place c.args.shape.predictor
    c.args.samples.now c.if-place-shape.false c.requires.columns (sym c.requires.column ∙ c.if-column-eq0.true)
    (omega (arith, c.type_inv.samples (c.args.place - c.args.shape.columns)))

pub returns : goal.returns
returns c =
    let other : c.args.place % c.args.shape.columns ≢ 0 = λ e. c.if-column-eq0.false (c.requires.column ∙ e) in
    λ lines. within c.args.shape.precision lines c.args.shape.columns c.args.place c.args.shape.predictor
    c.args.samples.now c.if-place-shape.false c.requires.columns other _ c.predict.ensures
