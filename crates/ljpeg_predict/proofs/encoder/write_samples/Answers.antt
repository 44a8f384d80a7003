use Rattle.std.proofs.Common.{◌≡◌, ◌++◌, [], length, mod-eq_of_lt, arith, refl, sym, ◌∙◌, subst}
use Rattle.std.proofs.Transfers.{starts_with_of_eq, starts_with_trans}
use Rattle.std.proofs.lemmas.Result.{on_ok_weaker}
use Rattle.binary_digits.specs.Digits.{bits_of}
use Rattle.binary_digits.proofs.DigitLemmas.{bits_of-zero}
use Rattle.ljpeg_huffman.proofs.TurnLemmas.{turn_begins, turn_goes_on}
use Rattle.ljpeg_predict.specs.Encoding.{difference_at, difference_bits, sample_bits, written_scan}
use Rattle.ljpeg_predict.specs.inner.Writing.{Adds, AddsLast}
use Rattle.ljpeg_predict.proofs.EncodeLemmas.{adds_more, adds_more_last, difference_is, sample_bits-more}
use Rattle.ljpeg_predict.proofs.EncodeLemmas.{sample_bits-none}
use Rattle.ljpeg_predict.proofs.WriterLemmas.{adds_nothing}
use Rattle.ljpeg_predict.proofs.encoder.write_samples.Goals as goal
use Rattle.ljpeg_predict.proofs.encoder.write_samples.Goals.{then-column-shape, else-column-shape}

pub loop-place-init : goal.loop-place-init
loop-place-init c = record {
  bits = λ lines. adds_nothing _ _ _ _ (bits_of-zero 0 ∙ sym (sample_bits-none _ _));
  few = omega arith;
  column = sym (mod-eq_of_lt c.requires.columns);
  kept = starts_with_of_eq _ _ refl;
}

pub loop-place-preserved : goal.loop-place-preserved
loop-place-preserved c =
    let at = c.loop-place in
    let shape = c.args.shape in
    let samples = c.args.samples.now in
    record {
      bits = λ lines.
          let scan = written_scan shape.precision lines shape.columns shape.predictor [] in
          let d = difference_is scan samples at.place c.predicted_at-predicted.result
          (c.predicted_at-predicted.ensures lines) in
          let bits = subst (λ v. Adds at.out.items c.write_difference.new.out.items
          (bits_of at.pending.held at.pending.word ++ difference_bits v) c.in_ok-pending.pending) d
          c.in_ok-pending.ensures.bits in
          subst (λ bs. Adds c.args.out.now.items c.write_difference.new.out.items bs c.in_ok-pending.pending)
          (sym (sample_bits-more scan samples at.place))
          (adds_more c.args.out.now.items at.out.items c.write_difference.new.out.items
          (sample_bits scan samples at.place) (difference_bits (difference_at scan samples at.place)) at.pending
          c.in_ok-pending.pending (at.invariant.bits lines) bits);
      few = c.in_ok-pending.ensures.few;
      column = elim c.if-column-shape.branch [
        | then-column-shape w ↦ w.column-is ∙ turn_goes_on _ _ _ at.invariant.column (omega arith)
        | else-column-shape w ↦ w.column-is ∙ turn_begins _ _ _ at.invariant.column (omega arith) (omega arith)
      ];
      kept = starts_with_trans _ _ _ c.in_ok-pending.ensures.kept at.invariant.kept;
    }

pub returns-clause-ok : goal.returns-clause-ok
returns-clause-ok c =
    let at = c.loop-place in
    let shape = c.args.shape in
    let samples = c.args.samples.now in
    let all : at.place ≡ length samples = omega arith in
    on_ok_weaker c.finish.result
    (λ last. λ lines. let scan = written_scan shape.precision lines shape.columns shape.predictor [] in
    subst (λ n. AddsLast c.args.out.now.items c.finish.new.out.items (sample_bits scan samples n)) all
    (adds_more_last c.args.out.now.items at.out.items c.finish.new.out.items
    (sample_bits scan samples at.place) at.pending (at.invariant.bits lines) last))
    c.finish.ensures.ok
