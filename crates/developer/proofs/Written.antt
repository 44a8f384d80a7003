-- Writing one run of bytes after another.
use Rattle.std.proofs.Common.{◌≡◌, ℕ, ◌+◌, List, [], ◌++◌, length, take, Result, Ok, Err, refl, sym, ◌∙◌, ap, subst}
use Rattle.std.proofs.Common.{arith, length-append}
use Rattle.std.proofs.lemmas.List.{take-append-le}
use Rattle.std.proofs.Math.Seq.{take-append-add}
use Rattle.raw_io.specs.Outside.{Appends}
use Rattle.raw_io.proofs.Pieces.{appends_nothing, appends_then}
use Rattle.developer.specs.Answered.{ByCause}
use Rattle.developer.specs.inner.Writes.{Writes}
use Rattle.developer.specs.declared.writing.Cause.{Cause}
use Rattle.developer.specs.declared.writing.Stop.{Stop}

module _ {S : Type 0} (stands_for : S → List ℕ → Type 0) (faults : S → ℕ) where
  -- nothing was written
  pub writes_nothing : {T : Type 0} (sink : S) (length_of : T → ℕ) (value : T) → length_of value ≡ 0
      → Writes stands_for faults sink sink [] length_of (Ok value)
  writes_nothing sink length_of value none = record {
    whole = appends_nothing stands_for sink;
    number = none;
    prefix = tt;
    within = tt;
    calm = refl;
    counts = omega arith;
    cause = tt;
  }

  -- the same bytes
  pub writes_same : {T : Type 0} (old new : S) (bytes others : List ℕ) (length_of : T → ℕ) (result : Result T Stop)
      → bytes ≡ others → Writes stands_for faults old new bytes length_of result
      → Writes stands_for faults old new others length_of result
  writes_same old new bytes others length_of result e w =
      subst (λ (b : List ℕ). Writes stands_for faults old new b length_of result) e w

  -- a stop in a prefix is one in the whole
  pub writes_stops : {T U : Type 0} (old new : S) (bytes more : List ℕ) (length_of : T → ℕ) (other : U → ℕ)
      (stop : Stop) → Writes stands_for faults old new bytes length_of (Err stop)
      → Writes stands_for faults old new (bytes ++ more) other (Err stop)
  writes_stops old new bytes more length_of other stop w = record {
    whole = tt;
    number = tt;
    prefix = subst (Appends stands_for old new) (sym (take-append-le stop.written bytes more w.within)) w.prefix;
    within = omega (arith, length-append bytes more, w.within);
    calm = tt;
    counts = w.counts;
    cause = w.cause;
  }

  -- a run, and then a stop in another
  pub writes_then_stops : {T U V : Type 0} (old mid new : S) (first second : List ℕ) (f : T → ℕ) (g : U → ℕ) (h : V → ℕ)
      (value : T) (stop behind : Stop) → behind.written ≡ f value + stop.written → behind.cause ≡ stop.cause
      → Writes stands_for faults old mid first f (Ok value) → Writes stands_for faults mid new second g (Err stop)
      → Writes stands_for faults old new (first ++ second) h (Err behind)
  writes_then_stops old mid new first second f g h value stop behind sum same a b =
      let at : behind.written ≡ length first + stop.written = omega (arith, sum, a.number) in
      record {
        whole = tt;
        number = tt;
        prefix = subst (Appends stands_for old new)
            (sym (ap (λ n. take n (first ++ second)) at ∙ take-append-add first second stop.written))
            (appends_then stands_for old mid new first (take stop.written second) a.whole b.prefix);
        within = omega (arith, at, b.within, length-append first second);
        calm = tt;
        counts = omega (arith, a.counts, b.counts);
        cause = subst (λ (cause : Cause). ByCause cause (faults old) (faults new)) (sym same)
            (subst (λ (before : ℕ). ByCause stop.cause before (faults new)) a.calm b.cause);
      }
