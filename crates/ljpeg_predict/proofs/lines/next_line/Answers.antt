use Rattle.std.proofs.Common.{arith}
use Rattle.ljpeg_predict.specs.declared.scan.Predictor.TheVariants.{Left, Above, AboveLeft, Plane, LeftAndSlope}
use Rattle.ljpeg_predict.specs.declared.scan.Predictor.TheVariants.{AboveAndSlope, Mean}
use Rattle.ljpeg_predict.proofs.LineLemmas.{next_line_is}
use Rattle.ljpeg_predict.proofs.lines.next_line.Goals as goal

pub returns-in-Left : goal.returns-in-Left
returns-in-Left c =
    let first = c.first_samples.ensures in
    let inner = c.inner_samples.ensures in
    rw c.in-Left.is (next_line_is Left _ _ _ _ _ _ (omega arith) first.first first.others inner.first inner.others)

pub returns-in-Above : goal.returns-in-Above
returns-in-Above c =
    let first = c.first_samples.ensures in
    let inner = c.inner_samples-in-Above.ensures in
    rw c.in-Above.is (next_line_is Above _ _ _ _ _ _ (omega arith) first.first first.others inner.first inner.others)

pub returns-in-AboveLeft : goal.returns-in-AboveLeft
returns-in-AboveLeft c =
    let first = c.first_samples.ensures in
    let inner = c.inner_samples-in-AboveLeft.ensures in
    rw c.in-AboveLeft.is (next_line_is AboveLeft _ _ _ _ _ _
    (omega arith) first.first first.others inner.first inner.others)

pub returns-in-Plane : goal.returns-in-Plane
returns-in-Plane c =
    let first = c.first_samples.ensures in
    let inner = c.inner_samples-in-Plane.ensures in
    rw c.in-Plane.is (next_line_is Plane _ _ _ _ _ _ (omega arith) first.first first.others inner.first inner.others)

pub returns-in-LeftAndSlope : goal.returns-in-LeftAndSlope
returns-in-LeftAndSlope c =
    let first = c.first_samples.ensures in
    let inner = c.inner_samples-in-LeftAndSlope.ensures in
    rw c.in-LeftAndSlope.is (next_line_is LeftAndSlope _ _ _ _ _ _
    (omega arith) first.first first.others inner.first inner.others)

pub returns-in-AboveAndSlope : goal.returns-in-AboveAndSlope
returns-in-AboveAndSlope c =
    let first = c.first_samples.ensures in
    let inner = c.inner_samples-in-AboveAndSlope.ensures in
    rw c.in-AboveAndSlope.is (next_line_is AboveAndSlope _ _ _ _ _ _
    (omega arith) first.first first.others inner.first inner.others)

pub returns-in-Mean : goal.returns-in-Mean
returns-in-Mean c =
    let first = c.first_samples.ensures in
    let inner = c.inner_samples-in-Mean.ensures in
    rw c.in-Mean.is (next_line_is Mean _ _ _ _ _ _ (omega arith) first.first first.others inner.first inner.others)
