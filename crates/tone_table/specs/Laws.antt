-- Laws of tones as stages: this project's own.
use Rattle.std.proofs.Common.{◌≡◌, ℕ, List, true, refl, ap}
use Rattle.std.specs.Prelude.{slice_index}
use Rattle.std.specs.Cmp.{unsigned_Decides}
use Rattle.std.proofs.lemmas.Slice.Eq.{slice_eq-Decides}
use Rattle.plane_view.specs.declared.Rect.{Rect}
use Rattle.plane_view.specs.declared.Shape.{Shape}
use Rattle.stage_core.specs.Stages.{AreAlike, RestsOn}
use Rattle.stage_core.proofs.Formulas.{alike_same}
use Rattle.tone_table.specs.Tones.{entry_at, toned}
use Rattle.tone_table.specs.contracts.tone.TonePartialEq.TheImpl.{ghosts}

-- an entry rests on the sample that it is for
pub entry_rests : (table : List ℕ) (planes : ℕ) (rect : Rect) → RestsOn (entry_at table) planes rect planes rect
entry_rests table planes rect = record {
  same = λ f g agree r c p pixel plane. ap (slice_index table) (agree r c p pixel plane);
}

-- equal tones are alike
pub same_tones : (s t : List ℕ) → ghosts.eq s t ≡ true
    → AreAlike (λ (s : List ℕ) (input : Shape). input.planes ≡ 3) (λ (s : List ℕ) (input : Shape). input)
    (λ (s : List ℕ) (input : Shape) (rect : Rect). rect) (λ (s : List ℕ) P. toned s P) s t
same_tones s t equal =
    alike_same _ _ _ _ s t ((slice_eq-Decides unsigned_Decides s t (ghosts.eq s t) refl).0 equal)
