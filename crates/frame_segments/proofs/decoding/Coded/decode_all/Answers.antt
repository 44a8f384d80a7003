use Rattle.std.proofs.Common.{◌≡◌, ℕ, List, None, Result, get_or, inl, inr, ap, ◌∙◌, subst, arith}
use Rattle.std.specs.Result.{result_err}
use Rattle.std.proofs.lemmas.Bool.{cases_lt}
use Rattle.std.proofs.lemmas.Option.{get_or_from_slice_get, slice_get-get_or, slice_get_within}
use Rattle.tag_rules.specs.declared.faults.SegmentFault.{SegmentFault}
use Rattle.frame_segments.specs.inner.Buffers.{Holds, IsDecodable}
use Rattle.frame_segments.proofs.SegmentLemmas.{decodable, next_fault, no_fault_left, nothing}
use Rattle.frame_segments.proofs.decoding.Coded.decode_all.Goals as goal

pub decode-requires : goal.decode-requires
decode-requires c =
    let k = c.loop-k.k in
    let segments = c.args.segments.now in
    let fits = c.requires.fit k (get_or segments k nothing) (slice_get-get_or segments k nothing (omega arith)) in
    record { inside = fits.inside; room = omega (arith, fits.room); some = fits.some; few = fits.few }

pub returns-in-Err-clause-fault : goal.returns-in-Err-clause-fault
returns-in-Err-clause-fault c =
    let l = c.loop-k in
    let bytes = c.args.self.now.bytes.now in
    let coding = c.args.self.now.coding in
    let segments = c.args.segments.now in
    l.invariant.faults
    ∙ next_fault bytes coding l.k segments nothing _ (omega arith)
    (ap (λ (answer : Result (List ℕ) SegmentFault). result_err answer) c.in-Err.ensures)

pub loop-k-preserved : goal.loop-k-preserved
loop-k-preserved c =
    let l = c.loop-k in
    let bytes = c.args.self.now.bytes.now in
    let coding = c.args.self.now.coding in
    let segments = c.args.segments.now in
    let here = get_or segments l.k nothing in
    record {
      faults =
          l.invariant.faults
          ∙ next_fault bytes coding l.k segments nothing None (omega arith)
          (decodable bytes _ coding here c.in_default.ensures);
      decodable = λ k segment h at. elim (cases_lt k l.k) [
        | inl before ↦ l.invariant.decodable k segment before at
        | inr now ↦
            let P : ℕ → Type 0 = λ n. get_or segments n nothing ≡ segment in
            let same : get_or segments l.k nothing ≡ segment = subst P (omega arith)
            (get_or_from_slice_get segments k segment nothing at) in
            subst (IsDecodable bytes coding) same (decodable bytes _ coding here c.in_default.ensures)
      ];
      last = λ k segment h at.
          let P : ℕ → Type 0 = λ n. get_or segments n nothing ≡ segment in
          let same : get_or segments l.k nothing ≡ segment = subst P (omega arith)
          (get_or_from_slice_get segments k segment nothing at) in
          subst (Holds c.decode.new.buffer bytes coding) same c.in_default.ensures;
    }

pub returns-clause-decoded : goal.returns-clause-decoded
returns-clause-decoded c =
    let l = c.loop-k in
    l.invariant.faults ∙ no_fault_left c.args.self.now.bytes.now c.args.self.now.coding l.k c.args.segments.now
    (omega arith)

pub returns-clause-decodable : goal.returns-clause-decodable
returns-clause-decodable c = λ k segment at.
    let within = slice_get_within c.args.segments.now k segment at in
    c.loop-k.invariant.decodable k segment (omega arith) at
