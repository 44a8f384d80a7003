use Rattle.std.proofs.Common.{arith, sym, refl, ap, ◌∙◌, ◌≡◌, ◌≢◌, ◌+◌, ◌-◌, length, take, drop, get_or, length-drop}
use Rattle.std.proofs.lemmas.Bool.{eqb-true, eqb-false}
use Rattle.std.proofs.lemmas.List.{get_or-drop, take_rest}
use Rattle.ljpeg_predict.specs.Scans.{row_length, components}
use Rattle.ljpeg_predict.proofs.PredictionLemmas.{first_line_of, next_line_of, some_line}
use Rattle.ljpeg_predict.proofs.samples.predict_line.Goals as goal

pub returns-then-is_empty : goal.returns-then-is_empty
returns-then-is_empty c =
    let none : length c.args.above.now ≡ 0 = eqb-true _ _ (sym c.is_empty.ensures ∙ c.if-is_empty.true) in
    first_line_of c.args.scan.now _ _ _ _ _ c.start.ensures c.components-step.ensures.is none
    (omega arith) c.first_line.ensures

pub next_line-requires-clause-above : goal.next_line-requires-clause-above
next_line-requires-clause-above c =
    let above = c.args.above.now in
    let some : length above ≢ 0 = eqb-false _ _ (sym c.is_empty.ensures ∙ c.if-is_empty.false) in
    let room = some_line c.requires.lines.0 (row_length c.args.scan.now) (length above) c.requires.lines.1 some in
    ap length (take_rest above (length above - length c.args.line.now))
    ∙ length-drop (length above - length c.args.line.now) above ∙ omega (arith, room)

pub returns-else-is_empty : goal.returns-else-is_empty
returns-else-is_empty c =
    let above = c.args.above.now in
    let scan = c.args.scan.now in
    let size = length c.args.line.now in
    let some : length above ≢ 0 = eqb-false _ _ (sym c.is_empty.ensures ∙ c.if-is_empty.false) in
    let nonempty : row_length scan ≢ 0 = omega arith in
    let room = some_line scan.columns (components scan) (row_length scan) refl nonempty in
    next_line_of scan c.predictor.result c.components-step.result c.requires.lines.0 above
    (take (length above - (length above - size)) (drop (length above - size) above)) c.args.line.now
    c.next_line.new.line
    c.predictor.ensures c.components-step.ensures.is (omega arith) (omega (arith, room)) c.requires.lines.1 some
    (omega arith)
    (λ j h. ap (λ xs. get_or xs j 0) (take_rest above (length above - size)) ∙ get_or-drop
    (length above - size) above j 0 ∙ ap (λ n. get_or above (length above - n + j) 0) c.requires.row)
    c.next_line.ensures
