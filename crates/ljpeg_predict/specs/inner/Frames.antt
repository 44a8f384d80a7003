-- What holds of a frame header that is told (ITU-T T.81, B.2.2 and table B.2).
use Rattle.std.specs.Prelude.{◌≤◌}
use Rattle.ljpeg_predict.specs.declared.headers.FrameHeader.{FrameHeader}

-- the bounds of a frame header that is told
pub record IsFrame (frame : FrameHeader) : Type 0 where
  pub low : 2 ≤ frame.precision
  pub high : frame.precision ≤ 16
  pub some : 1 ≤ frame.components
  pub few : frame.components ≤ 4
