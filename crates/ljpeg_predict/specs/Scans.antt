-- What the headers tell of a scan (ITU-T T.81, B.2.2 and B.2.3).
use Rattle.std.specs.Prelude.{ℕ, ◌*◌, List, length}
use Rattle.ljpeg_huffman.specs.Differences.{by_turns}
use Rattle.ljpeg_huffman.specs.Words.{Table}
use Rattle.ljpeg_predict.specs.declared.scan.Predictor.{Predictor}

-- a scan: the samples' precision in bits, the number of lines and of samples a line, the code words of each component,
-- the predictor, and the bytes from the first one of the data on
pub record Scan : Type 0 where
  pub precision : ℕ
  pub lines : ℕ
  pub columns : ℕ
  pub tables : List Table
  pub predictor : Predictor
  pub bytes : List ℕ

-- the number of components
abbrev pub components : Scan → ℕ
components scan = length scan.tables

-- the number of samples of all components
abbrev pub sample_count : Scan → ℕ
sample_count scan = scan.lines * (scan.columns * components scan)

-- the number of samples of a line, of all components
abbrev pub row_length : Scan → ℕ
row_length scan = scan.columns * components scan

-- the code words of the component that the sample at a place belongs to
abbrev pub table_at : Scan → ℕ → Table
table_at scan place = by_turns scan.tables place
