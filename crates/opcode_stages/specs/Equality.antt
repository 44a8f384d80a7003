-- Laws of equal rectangles: this project's own.
use Rattle.std.proofs.Common.{◌≡◌, ap, Decides}
use Rattle.std.proofs.lemmas.Bool.Decides.{Decides-and, Decides-eqb, Decides-like}
use Rattle.plane_view.specs.declared.Rect.{Rect}
use Rattle.opcode_stages.specs.BadPixels.{same_edges}

-- two rectangles have the same edges exactly where they are the same
pub rect_equality : (s t : Rect) → Decides (same_edges s t) (s ≡ t)
rect_equality s t =
    Decides-like (same_edges s t)
    (λ (h : (s.top ≡ t.top) × ((s.left ≡ t.left) × ((s.bottom ≡ t.bottom) × (s.right ≡ t.right)))).
    λ i. record { top = h.0 i; left = h.1.0 i; bottom = h.1.1.0 i; right = h.1.1.1 i })
    (λ (e : s ≡ t). (
      ap (λ (x : Rect). x.top) e,
      (ap (λ (x : Rect). x.left) e, (ap (λ (x : Rect). x.bottom) e, ap (λ (x : Rect). x.right) e)),
    ))
    (Decides-and _ _ (Decides-eqb s.top t.top)
    (Decides-and _ _ (Decides-eqb s.left t.left) (Decides-and _ _ (Decides-eqb s.bottom t.bottom)
    (Decides-eqb s.right t.right))))
