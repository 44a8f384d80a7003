-- When stages that mend are equal: this project's own.
use Rattle.std.proofs.Common.{◌≡◌, ℕ, true, refl, sym, ap, Decides}
use Rattle.std.specs.Cmp.{IsEquivalence, IsPartialEquivalence, partial_equiv_from_equiv}
use Rattle.std.specs.Cmp.Lexicographic.{pointwise_decides}
use Rattle.std.proofs.lemmas.Bool.Decides.{Decides-and, Decides-eqb, Decides-like, same_from_decides}
use Rattle.plane_view.specs.Rectangles.{grown, whole_rect}
use Rattle.stage_core.specs.Stages.{AreAlike}
use Rattle.opcode_stages.specs.declared.fix_constant.FixConstant.{FixConstant}
use Rattle.opcode_stages.specs.contracts.fix_constant.FixConstantPartialEq.TheImpl.{ghosts}
use Rattle.opcode_stages.specs.Equality.{rect_equality}
use Rattle.opcode_stages.specs.Mends.{IsSingle, mended, equals, is_listed}
use Rattle.opcode_stages.specs.MendStages.{constant_of, phase_of}
use Rattle.opcode_stages.specs.BadPixels.{BadPixels, same_pixels, same_point}

-- two mendings of a number are equal exactly where the number and the phase are
pub constant_equality : (s t : FixConstant) → Decides (ghosts.eq s t) ((constant_of s ≡ constant_of t)
    × (phase_of s ≡ phase_of t))
constant_equality s t = Decides-and _ _ (Decides-eqb s.constant t.constant) (Decides-eqb s.phase t.phase)

-- equal ones are alike
pub constant_alike : (s t : FixConstant) → ghosts.eq s t ≡ true
    → AreAlike (λ (s : FixConstant) input. IsSingle input) (λ (s : FixConstant) input. input)
    (λ (s : FixConstant) input rect. grown rect 2 (whole_rect input.rows input.cols))
    (λ (s : FixConstant) P. mended (equals (constant_of s)) (phase_of s) P) s t
constant_alike s t equal =
    let same = (constant_equality s t).0 equal in
    record {
      inputs = λ input takes. takes;
      shapes = λ input. refl;
      needs = λ input rect. refl;
      meanings = λ P. λ i. mended (equals (same.0 i)) (same.1 i) P;
    }

-- two points are equal where their rows and their columns are
point_equality : (p q : ℕ × ℕ) → Decides (same_point p q) (p ≡ q)
point_equality p q =
    Decides-like (same_point p q) (λ (h : (p.0 ≡ q.0) × (p.1 ≡ q.1)). λ i. (h.0 i, h.1 i))
    (λ (e : p ≡ q). (ap (λ (x : ℕ × ℕ). x.0) e, ap (λ (x : ℕ × ℕ). x.1) e))
    (Decides-and _ _ (Decides-eqb p.0 q.0) (Decides-eqb p.1 q.1))

-- two lists of bad pixels are the same exactly where the phase, the points and the rectangles are, in their order
pub pixels_equality : (s t : BadPixels) → Decides (same_pixels s t) (s ≡ t)
unfolding same_pixels
pixels_equality s t =
    Decides-like (same_pixels s t)
    (λ (h : ((s.phase ≡ t.phase) × (s.points ≡ t.points)) × (s.rects ≡ t.rects)). λ i. record {
      phase = h.0.0 i;
      points = h.0.1 i;
      rects = h.1 i;
    })
    (λ (e : s ≡ t). (
      (ap (λ (p : BadPixels). p.phase) e, ap (λ (p : BadPixels). p.points) e),
      ap (λ (p : BadPixels). p.rects) e,
    ))
    (Decides-and _ _ (Decides-and _ _ (Decides-eqb s.phase t.phase)
    (pointwise_decides point_equality s.points t.points)) (pointwise_decides rect_equality s.rects t.rects))

-- being the same is an equivalence
pub pixels_equiv : IsEquivalence same_pixels
pixels_equiv = record {
  refl = λ s. (pixels_equality s s).1 refl;
  symm = λ s t. same_from_decides (same_pixels s t) (same_pixels t s) (pixels_equality s t)
      (λ h. sym ((pixels_equality t s).0 h), λ e. (pixels_equality t s).1 (sym e));
  congr = λ s t u h. ap (λ (x : BadPixels). same_pixels x u) ((pixels_equality s t).0 h);
}

-- being the same pixels is symmetric and transitive
pub pixels_per : IsPartialEquivalence same_pixels
pixels_per = partial_equiv_from_equiv pixels_equiv

-- equal ones are alike
pub list_alike : (s t : BadPixels) → same_pixels s t ≡ true
    → AreAlike (λ (s : BadPixels) input. IsSingle input) (λ (s : BadPixels) input. input)
    (λ (s : BadPixels) input rect. grown rect 2 (whole_rect input.rows input.cols))
    (λ (s : BadPixels) P. mended (is_listed s.points s.rects) s.phase P) s t
list_alike s t equal =
    let same : s ≡ t = (pixels_equality s t).0 equal in
    record {
      inputs = λ input takes. takes;
      shapes = λ input. refl;
      needs = λ input rect. refl;
      meanings = λ P. ap (λ (p : BadPixels). mended (is_listed p.points p.rects) p.phase P) same;
    }
