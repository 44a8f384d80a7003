-- When stages of demosaicing are equal, and that such are alike: this project's own.
use Rattle.std.proofs.Common.{◌≡◌, true, refl, ap, subst, sym, ◌∙◌, Decides, rules}
use Rattle.plane_view.specs.Plane.{coloured}
use Rattle.plane_view.specs.Rectangles.{grown, whole_rect}
use Rattle.stage_core.specs.Stages.{AreAlike}
use Rattle.malvar.specs.declared.stage.Demosaic.{Demosaic}
use Rattle.malvar.specs.declared.pattern.Pattern.{Pattern}
use Rattle.malvar.specs.declared.pattern.Pattern.TheVariants.{RedGreenGreenBlue, BlueGreenGreenRed, GreenRedBlueGreen}
use Rattle.malvar.specs.declared.pattern.Pattern.TheVariants.{GreenBlueRedGreen}
use Rattle.malvar.specs.contracts.stage.DemosaicPartialEq.TheImpl.{ghosts}
use Rattle.malvar.specs.declared.Kind.{Kind}
use Rattle.malvar.specs.Demosaic.{table_of, reach_of, demosaiced}
use Rattle.malvar.specs.Mosaics.{IsMosaic, colours_of, with_colours, kind_of, cfa_of}

-- a pattern is the one with its colours
with_own : (p : Pattern) → with_colours (colours_of p) ≡ p
with_own RedGreenGreenBlue = refl
with_own BlueGreenGreenRed = refl
with_own GreenRedBlueGreen = refl
with_own GreenBlueRedGreen = refl

-- a stage is equal to itself
equal_self : (s : Demosaic) → ghosts.eq s s ≡ true
equal_self s = search rules

-- two stages are equal exactly where their kinds and the colours of their patterns are
pub mosaic_equality : (s t : Demosaic) → Decides (ghosts.eq s t) ((kind_of s ≡ kind_of t) × (cfa_of s ≡ cfa_of t))
mosaic_equality s t = (
  λ equal.
      let kind : s.kind ≡ t.kind = search rules in
      let pattern : s.pattern ≡ t.pattern = search rules in
      (kind, ap colours_of pattern),
  λ same.
      let pattern : s.pattern ≡ t.pattern = sym (with_own s.pattern) ∙ ap with_colours same.1 ∙ with_own t.pattern in
      subst (λ (u : Demosaic). ghosts.eq s u ≡ true) (λ i. record { kind = same.0 i; pattern = pattern i })
      (equal_self s),
)

-- equal ones are alike
pub same_mosaics : (s t : Demosaic) → ghosts.eq s t ≡ true
    → AreAlike (λ (s : Demosaic). IsMosaic) (λ (s : Demosaic). coloured)
    (λ (s : Demosaic) input rect. grown rect (reach_of s.kind) (whole_rect input.rows input.cols))
    (λ (s : Demosaic) P. demosaiced (table_of s.kind) (cfa_of s) P) s t
same_mosaics s t equal =
    let same = (mosaic_equality s t).0 equal in
    record {
      inputs = λ input takes. takes;
      shapes = λ input. refl;
      needs = λ input rect. ap (λ (k : Kind). grown rect (reach_of k) (whole_rect input.rows input.cols)) same.0;
      meanings = λ P. λ i. demosaiced (table_of (same.0 i)) (same.1 i) P;
    }
