-- What a stream answers (ITU-T T.81, annex H).
use Rattle.std.specs.Prelude.{◌≡◌, ℕ, ◌≤◌, ◌<◌, Bool, List, ◌++◌, length, ℤ, Result, Ok, Err}
use Rattle.ljpeg_huffman.specs.Differences.{IsRefused, Spells, data_bits}
use Rattle.ljpeg_huffman.specs.declared.bits.BitFault.{BitFault}
use Rattle.ljpeg_huffman.specs.declared.bits.BitFault.TheVariants as bit
use Rattle.ljpeg_predict.specs.Chain.{◌>>=◌}
use Rattle.ljpeg_predict.specs.Headers.{headers_of, sized}
use Rattle.ljpeg_predict.specs.Prediction.{IsRebuilt}
use Rattle.ljpeg_predict.specs.Scans.{Scan, table_at}
use Rattle.ljpeg_predict.specs.declared.JpegFault.{JpegFault}
use Rattle.ljpeg_predict.specs.declared.JpegFault.TheVariants as fault

-- A prefix of the scan's data bits spells these differences, and `rest` follows it.
pub record Begins (scan : Scan) (differences : List ℤ) (rest : List Bool) : Type 0 where
  pub taken : List Bool
  pub parts : data_bits scan.bytes ≡ taken ++ rest
  pub spelled : Spells (table_at scan) taken differences

-- A prefix of the scan's data bits spells so many differences, and these are their samples.
pub record IsDecoded (scan : Scan) (want : ℕ) (samples : List ℕ) : Type 0 where
  pub differences : List ℤ
  pub rest : List Bool
  pub begins : Begins scan differences rest
  pub enough : length differences ≡ want
  pub rebuilt : IsRebuilt scan differences samples

-- No prefix of the scan's data bits spells so many differences. Behind the longest list that one spells, no further
-- difference can be taken, for this reason.
pub record IsCutShort (scan : Scan) (want : ℕ) (reason : BitFault) : Type 0 where
  pub differences : List ℤ
  pub rest : List Bool
  pub begins : Begins scan differences rest
  pub few : length differences < want
  pub longest : (others : List ℤ) (behind : List Bool) → Begins scan others behind → length others ≤ length differences
  pub refused : IsRefused (table_at scan (length differences)) rest reason

-- What a stream whose headers tell a scan, or a refusal, answers where so many samples are wanted: the headers'
-- refusal, or the samples, or why the data are too few.
abbrev pub Answers : Result Scan JpegFault → ℕ → Result (Unit {0}) JpegFault → List ℕ → Type 0
Answers (Err fault) want result samples = result ≡ Err fault
Answers (Ok scan) want (Ok none) samples = IsDecoded scan want samples
Answers (Ok scan) want (Err fault.Ended) samples = IsCutShort scan want bit.Ended
Answers (Ok scan) want (Err fault.NoCode) samples = IsCutShort scan want bit.NoCode
Answers (Ok scan) want (Err _) samples = ⊥

-- the stream definition: what a stream answers where so many samples are wanted
abbrev pub IsAnswer : List ℕ → ℕ → Result (Unit {0}) JpegFault → List ℕ → Type 0
IsAnswer bytes want result samples = Answers (headers_of bytes >>= sized want) want result samples
