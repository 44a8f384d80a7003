-- What a stream answers, by its headers.
use Rattle.std.proofs.Common.{◌≡◌, ◌≢◌, ℕ, List, Result, Ok, Err, sym, ap, ◌∙◌, subst, eq-eqb, ne_eqb}
use Rattle.std.proofs.lemmas.Bool.{cond-true, cond-false}
use Rattle.ljpeg_huffman.specs.declared.bits.BitFault.{BitFault}
use Rattle.ljpeg_huffman.specs.declared.bits.BitFault.TheVariants.{Ended, NoCode}
use Rattle.ljpeg_predict.specs.Chain.{◌>>=◌}
use Rattle.ljpeg_predict.specs.Decoded.{data_fault}
use Rattle.ljpeg_predict.specs.Headers.{headers_of, sized}
use Rattle.ljpeg_predict.specs.Scans.{Scan, sample_count}
use Rattle.ljpeg_predict.specs.Streams.{Answers, IsAnswer, IsCutShort}
use Rattle.ljpeg_predict.specs.declared.JpegFault.{JpegFault}
use Rattle.ljpeg_predict.specs.declared.JpegFault.TheVariants as fault

pub sized_so : (scan : Scan) (want : ℕ) → sample_count scan ≡ want → sized want scan ≡ Ok scan
unfolding sized
sized_so scan want e = cond-true _ _ _ (eq-eqb (sample_count scan) want e)

pub sized_otherwise : (scan : Scan) (want : ℕ) → sample_count scan ≢ want
    → sized want scan ≡ Err (fault.Size (sample_count scan))
unfolding sized
sized_otherwise scan want e = cond-false _ _ _ (ne_eqb (sample_count scan) want e)

-- an answer behind headers that tell a scan
pub answer_at : (bytes samples : List ℕ) (want : ℕ) (scan : Scan) (sizing : Result Scan JpegFault)
    (result : Result (Unit {0}) JpegFault) → headers_of bytes ≡ Ok scan → sized want scan ≡ sizing
    → Answers sizing want result samples → IsAnswer bytes want result samples
answer_at bytes samples want scan sizing result e is a =
    subst (λ r. Answers r want result samples) (sym (ap (λ r. r >>= sized want) e ∙ is)) a

-- data that are too few are answered by their reason
pub cut_answers : (scan : Scan) (want : ℕ) (samples : List ℕ) (reason : BitFault) → IsCutShort scan want reason
    → Answers (Ok scan) want (Err (data_fault reason)) samples
cut_answers scan want samples Ended cut = cut
cut_answers scan want samples NoCode cut = cut
