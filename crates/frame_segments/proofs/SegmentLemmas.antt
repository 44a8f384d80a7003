-- Segments that are decoded.
use Rattle.std.proofs.Common.{◌≡◌, ℕ, ◌+◌, ◌<◌, ◌≤◌, List, ◌∷◌, add-one, drop, drop-cons, get_or, length}
use Rattle.std.proofs.Common.{Option, None, Some, Result, Ok, Err, sym, ap, ◌∙◌}
use Rattle.std.specs.Prelude.{⊤}
use Rattle.std.specs.Result.{result_err}
use Rattle.std.proofs.lemmas.List.{drop_all}
use Rattle.ljpeg_predict.specs.Decoded.{told}
use Rattle.dng_tags.specs.Raw.{fault_from, refused_or, samples_in, segment_fault}
use Rattle.dng_tags.proofs.RawLemmas.{fault_from-cons, fault_from-nil}
use Rattle.tag_rules.specs.declared.faults.SegmentFault.{SegmentFault}
use Rattle.dng_tags.specs.declared.record.Coding.{Coding}
use Rattle.dng_tags.specs.declared.record.Segment.{Segment}

-- a segment that is decoded, and one that can be
pub decodable : (bytes coded : List ℕ) (coding : Coding) (segment : Segment)
    → samples_in bytes coding segment ≡ Ok coded → segment_fault bytes coding segment ≡ None
decodable bytes coded coding segment is = ap (λ (answer : Result (List ℕ) SegmentFault). result_err answer) is

pub decoded_again : (r : Result ⊤ SegmentFault) (bytes coded : List ℕ) (coding : Coding) (segment : Segment)
    → segment_fault bytes coding segment ≡ None → samples_in bytes coding segment ≡ told r coded
    → samples_in bytes coding segment ≡ Ok coded
decoded_again (Ok none) bytes coded coding segment can is = is
decoded_again (Err why) bytes coded coding segment can is =
    let clash : None ≡ Some why = sym can ∙ ap (λ (answer : Result (List ℕ) SegmentFault). result_err answer) is in
    absurd (cc)

-- what the segments from number k on say, by the first of them
pub next_fault : (bytes : List ℕ) (coding : Coding) (k : ℕ) (segments : List Segment) (d : Segment)
    (why : Option SegmentFault) → k < length segments → segment_fault bytes coding (get_or segments k d) ≡ why
    → fault_from bytes coding k (drop k segments)
    ≡ refused_or k why (fault_from bytes coding (k + 1) (drop (k + 1) segments))
next_fault bytes coding k segments d why h is =
    ap (fault_from bytes coding k)
    (drop-cons segments k d h ∙ ap (λ n. get_or segments k d ∷ drop n segments) (sym (add-one k)))
    ∙ fault_from-cons bytes coding k (get_or segments k d) (drop (k + 1) segments)
    ∙ ap (λ fault. refused_or k fault (fault_from bytes coding (k + 1) (drop (k + 1) segments))) is

pub no_fault_left : (bytes : List ℕ) (coding : Coding) (k : ℕ) (segments : List Segment) → length segments ≤ k
    → fault_from bytes coding k (drop k segments) ≡ None
no_fault_left bytes coding k segments h = ap (fault_from bytes coding k) (drop_all k segments h)
    ∙ fault_from-nil bytes coding k

-- a segment to look past the end of a list with
abbrev pub nothing : Segment
nothing =
    record {
      at = 0;
      length = 0;
      rect = record { top = 0; left = 0; bottom = 0; right = 0 };
      full_rows = 0;
      full_cols = 0;
    }
