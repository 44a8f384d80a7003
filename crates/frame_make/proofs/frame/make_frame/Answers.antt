use Rattle.std.proofs.Common.{◌≡◌, IfOk, rules}
use Rattle.frame_make.specs.Accepted.{AreSides}
use Rattle.frame_make.specs.Made.{made_bytes}
use Rattle.frame_make.proofs.Acceptance.{short_where}
use Rattle.frame_make.proofs.frame.make_frame.Goals as goal

pub returns-clause-short : goal.returns-clause-short
unfolding made_bytes
returns-clause-short c =
    let a = c.args in
    let r = c.requires in
    let sides : AreSides a.w a.h =
    record { some_cols = r.some_cols; cols = r.cols; some_rows = r.some_rows; rows = r.rows; area = r.area } in
    let made : IfOk c.file_bytes.result (λ bytes. bytes.items ≡ made_bytes a.number a.w a.h a.kind) = search rules in
    short_where c.file_bytes.result a.number a.w a.h a.kind sides made
