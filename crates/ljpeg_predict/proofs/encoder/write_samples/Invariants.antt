use Rattle.std.proofs.Common.{◌≡◌, ◌%◌, ◌<◌, ℕ, []}
use Rattle.std.specs.Io.{StartsWith}
use Rattle.ljpeg_predict.specs.Encoding.{sample_bits, written_scan}
use Rattle.ljpeg_predict.specs.inner.Writing.{Adds}
use Rattle.ljpeg_predict.proofs.encoder.write_samples.Given as goal

abbrev pub invariant-loop-place : goal.invariant-loop-place
invariant-loop-place l = record {
  bits : (lines : ℕ) → Adds l.fn.out.items l.out.items
      (sample_bits (written_scan l.shape.precision lines l.shape.columns l.shape.predictor []) l.samples l.place)
      l.pending;
  few : l.pending.held < 8;
  column : l.column ≡ l.place % l.shape.columns;
  kept : StartsWith l.out.items l.fn.out.items;
}
