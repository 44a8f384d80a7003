-- A stream has exactly one answer.
use Rattle.std.proofs.Common.{◌≡◌, ℕ, ◌<◌, Bool, true, false, cond, eqb, List, ◌++◌, length, Result, Ok, Err, IsOk}
use Rattle.std.proofs.Common.{refl, sym, ap, ◌∙◌, subst, arith}
use Rattle.std.proofs.lemmas.Bool.{eqb-true}
use Rattle.std.proofs.lemmas.List.{append_cancel_left}
use Rattle.ljpeg_huffman.specs.Words.{IsPrefixFree}
use Rattle.ljpeg_huffman.specs.Differences.{IsRefused}
use Rattle.ljpeg_huffman.specs.declared.bits.BitFault.{BitFault}
use Rattle.ljpeg_huffman.specs.declared.bits.BitFault.TheVariants as bit
use Rattle.ljpeg_huffman.proofs.DecodeLemmas.{ended_or_no_code}
use Rattle.ljpeg_huffman.proofs.SpellLemmas.{one_list}
use Rattle.ljpeg_predict.specs.Chain.{◌>>=◌}
use Rattle.ljpeg_predict.specs.Headers.{headers_of, sized}
use Rattle.ljpeg_predict.specs.Prediction.{IsRebuilt}
use Rattle.ljpeg_predict.specs.Scans.{Scan, row_length, sample_count, table_at}
use Rattle.ljpeg_predict.specs.Streams.{Answers, IsAnswer, IsCutShort, IsDecoded}
use Rattle.ljpeg_predict.specs.declared.JpegFault.{JpegFault}
use Rattle.ljpeg_predict.specs.declared.JpegFault.TheVariants as fault
use Rattle.ljpeg_predict.proofs.DecodeLemmas.{some_width}
use Rattle.ljpeg_predict.proofs.FreeLemmas.{bind_ok, ok_is, stream_free}
use Rattle.ljpeg_predict.proofs.RebuiltLemmas.{one_list_of_samples}

-- the answers over a scan, by their three cases
data Outcome (scan : Scan) (want : ℕ) (result : Result (Unit {0}) JpegFault) (samples : List ℕ) : Type 0 where
  decoded : result ≡ Ok tt → IsDecoded scan want samples → Outcome scan want result samples
  ended : result ≡ Err fault.Ended → IsCutShort scan want bit.Ended → Outcome scan want result samples
  no_code : result ≡ Err fault.NoCode → IsCutShort scan want bit.NoCode → Outcome scan want result samples

outcome : (scan : Scan) (want : ℕ) (result : Result (Unit {0}) JpegFault) (samples : List ℕ)
    → Answers (Ok scan) want result samples → Outcome scan want result samples
outcome scan want (Ok u) samples a = decoded refl a
outcome scan want (Err fault.Ended) samples a = ended refl a
outcome scan want (Err fault.NoCode) samples a = no_code refl a
outcome scan want (Err _) samples a = absurd a

not_ok : (r : Result (Unit {0}) JpegFault) (f : JpegFault) → r ≡ Err f → IsOk r → ⊥
not_ok (Ok u) f e ok = absurd (cc)
not_ok (Err g) f e ok = absurd (cc)

-- what stands behind the same prefix of the same bits
same_rest : (a b x y : List Bool) → a ≡ b → a ++ x ≡ b ++ y → x ≡ y
same_rest a b x y e f = append_cancel_left b x y (sym (ap (λ c. c ++ x) e) ∙ f)

module _ (scan : Scan) (free : (place : ℕ) → IsPrefixFree (table_at scan place)) (want : ℕ)
    (width : 0 < row_length scan) where
  same_samples : (xs ys : List ℕ) → IsDecoded scan want xs → IsDecoded scan want ys → xs ≡ ys
  same_samples xs ys x y =
      let bits = sym x.begins.parts ∙ y.begins.parts in
      let one = one_list x.differences y.differences (table_at scan) free x.begins.taken y.begins.taken x.rest y.rest
      x.begins.spelled y.begins.spelled (x.enough ∙ sym y.enough) bits in
      one_list_of_samples scan width y.differences xs ys (subst (λ ds. IsRebuilt scan ds xs) one.1 x.rebuilt) y.rebuilt

  not_both : (xs : List ℕ) (f : BitFault) → IsDecoded scan want xs → IsCutShort scan want f → ⊥
  not_both xs f x y = let most = y.longest x.differences x.rest x.begins in let few = y.few in let enough =
      x.enough in absurd (omega (arith, most, few, enough))

  one_reason : IsCutShort scan want bit.Ended → IsCutShort scan want bit.NoCode → ⊥
  one_reason x y =
      let most = x.longest y.differences y.rest y.begins in
      let least = y.longest x.differences x.rest x.begins in
      let size : length x.differences ≡ length y.differences = omega (arith, most, least) in
      let bits = sym x.begins.parts ∙ y.begins.parts in
      let one = one_list x.differences y.differences (table_at scan) free x.begins.taken y.begins.taken x.rest y.rest
      x.begins.spelled y.begins.spelled size bits in
      let rest : x.rest ≡ y.rest = same_rest x.begins.taken y.begins.taken x.rest y.rest one.0 bits in
      ended_or_no_code (table_at scan (length x.differences)) x.rest x.refused
      (subst (λ r. IsRefused (table_at scan (length x.differences)) r bit.NoCode) (sym rest)
      (subst (λ n. IsRefused (table_at scan n) y.rest bit.NoCode) (sym size) y.refused))

  one_outcome : (r s : Result (Unit {0}) JpegFault) (xs ys : List ℕ) → Outcome scan want r xs → Outcome scan want s ys
      → (r ≡ s) × (IsOk r → xs ≡ ys)
  one_outcome r s xs ys (decoded e x) (decoded f y) = (e ∙ sym f, λ ok. same_samples xs ys x y)
  one_outcome r s xs ys (decoded e x) (ended f y) = absurd (not_both xs bit.Ended x y)
  one_outcome r s xs ys (decoded e x) (no_code f y) = absurd (not_both xs bit.NoCode x y)
  one_outcome r s xs ys (ended e x) (decoded f y) = absurd (not_both ys bit.Ended y x)
  one_outcome r s xs ys (ended e x) (ended f y) = (e ∙ sym f, λ ok. absurd (not_ok r fault.Ended e ok))
  one_outcome r s xs ys (ended e x) (no_code f y) = absurd (one_reason x y)
  one_outcome r s xs ys (no_code e x) (decoded f y) = absurd (not_both ys bit.NoCode y x)
  one_outcome r s xs ys (no_code e x) (ended f y) = absurd (one_reason y x)
  one_outcome r s xs ys (no_code e x) (no_code f y) = (e ∙ sym f, λ ok. absurd (not_ok r fault.NoCode e ok))

-- a scan that has so many samples
pub sized_is : (want : ℕ) (scan other : Scan) → sized want scan ≡ Ok other
    → (scan ≡ other) × (sample_count other ≡ want)
unfolding sized
sized_is want scan other e = by_test (eqb (sample_count scan) want) refl e
  where
    by_test : (b : Bool) → eqb (sample_count scan) want ≡ b
        → cond b (Ok scan) (Err (fault.Size (sample_count scan))) ≡ Ok other
        → (scan ≡ other) × (sample_count other ≡ want)
    by_test true t e = let same =
        ok_is scan other e in (same, sym (ap sample_count same) ∙ eqb-true (sample_count scan) want t)
    by_test false t e = absurd (cc)

at_headers : (bytes : List ℕ) (want : ℕ) (answer : Result Scan JpegFault) → (headers_of bytes >>= sized want) ≡ answer
    → (r s : Result (Unit {0}) JpegFault) (xs ys : List ℕ) → 0 < want → Answers answer want r xs
    → Answers answer want s ys → (r ≡ s) × (IsOk r → xs ≡ ys)
at_headers bytes want (Err f) is r s xs ys some a b = (a ∙ sym b, λ ok. absurd (not_ok r f a ok))
at_headers bytes want (Ok scan) is r s xs ys some a b =
    let t = bind_ok (headers_of bytes) (sized want) scan is in
    let same = sized_is want t.0 scan t.2 in
    let free = stream_free bytes scan (t.1 ∙ ap Ok same.0) in
    let width = some_width scan.lines (row_length scan) want some (sym same.1) in
    one_outcome scan free want width r s xs ys (outcome scan want r xs a) (outcome scan want s ys b)

pub one_answer : (bytes : List ℕ) (want : ℕ) (r s : Result (Unit {0}) JpegFault) (xs ys : List ℕ) → 0 < want
    → IsAnswer bytes want r xs → IsAnswer bytes want s ys → (r ≡ s) × (IsOk r → xs ≡ ys)
one_answer bytes want r s xs ys some a b =
    at_headers bytes want (headers_of bytes >>= sized want) refl r s xs ys some a b
