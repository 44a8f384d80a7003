use Rattle.std.proofs.Common.{◌≡◌, ◌≢◌, Err, arith, ap, length, sym}
use Rattle.std.proofs.lemmas.Result.{err_from_is_err_and}
use Rattle.ljpeg_predict.specs.Scans.{sample_count}
use Rattle.ljpeg_predict.specs.declared.JpegFault.TheVariants as fault
use Rattle.ljpeg_predict.proofs.AnswerLemmas.{answer_at, cut_answers, sized_otherwise, sized_so}
use Rattle.ljpeg_predict.proofs.FreeLemmas.{stream_free}
use Rattle.ljpeg_predict.proofs.decode.Goals as goal

pub read_samples-requires-clause-free : goal.read_samples-requires-clause-free
read_samples-requires-clause-free c = stream_free c.args.bytes.now _ (sym c.in_ok-scan.ensures)

pub returns-then-has-out : goal.returns-then-has-out
returns-then-has-out c =
    let count : c.sample_count-has.result ≡ sample_count c.in_ok-scan.scan = c.sample_count-has.ensures in
    let other : sample_count c.in_ok-scan.scan ≢ length c.args.out.now = omega arith in
    answer_at _ _ _ c.in_ok-scan.scan _ _ (sym c.in_ok-scan.ensures) (sized_otherwise _ _ other)
    (ap (λ n. Err (fault.Size n)) count)

pub returns-in_err-read_samples : goal.returns-in_err-read_samples
returns-in_err-read_samples c =
    let count : c.sample_count-has.result ≡ sample_count c.in_ok-scan.scan = c.sample_count-has.ensures in
    let same : sample_count c.in_ok-scan.scan ≡ length c.args.out.now = omega arith in
    let p = err_from_is_err_and c.from_residual-in_err-read_samples.result c.from_residual-in_err-read_samples.ensures.1
    in
    rw (p.1, p.2) (answer_at _ _ _ c.in_ok-scan.scan _ _ (sym c.in_ok-scan.ensures) (sized_so _ _ same)
    (cut_answers _ _ _ c.in_err-read_samples.field-0.0 c.in_err-read_samples.ensures.fault))

pub returns : goal.returns
returns c =
    let count : c.sample_count-has.result ≡ sample_count c.in_ok-scan.scan = c.sample_count-has.ensures in
    let same : sample_count c.in_ok-scan.scan ≡ length c.args.out.now = omega arith in
    answer_at _ _ _ c.in_ok-scan.scan _ _ (sym c.in_ok-scan.ensures) (sized_so _ _ same) c.in_ok-read_samples.ensures.ok
