-- Equal stages of linear values are alike: this project's own.
use Rattle.std.proofs.Common.{◌≡◌, true, refl, sym, ◌∙◌, ap, subst, nat_eq, ◌&&◌, eq-eqb}
use Rattle.std.specs.Bool.{Decides}
use Rattle.std.specs.Cmp.{IsPartialEquivalence, first_so, second_so, signed_Decides}
use Rattle.std.specs.Cmp.Lexicographic.{pointwise, bytes_decides}
use Rattle.std.specs.Cmp.Rules.{signed_items}
use Rattle.std.specs.Ordering.{int_eq}
use Rattle.std.proofs.lemmas.Bool.{eqb-true}
use Rattle.std.proofs.lemmas.Bool.Decides.{same_from_decides}
use Rattle.plane_view.specs.declared.Rect.{Rect}
use Rattle.plane_view.specs.declared.Shape.{Shape}
use Rattle.stage_core.specs.Stages.{AreAlike}
use Rattle.linearise.specs.Parameters.{IsArea, Parameters, linear_plane, same_parameters}

-- two are the same exactly where the rows and columns, the table, all black levels and the span are
pub same_is : (s t : Parameters) → Decides (same_parameters s t) (s ≡ t)
unfolding same_parameters
same_is s t = (
  λ h.
      let rest = second_so (nat_eq s.rows t.rows)
      (nat_eq s.cols t.cols && (pointwise nat_eq s.table t.table
      && (pointwise int_eq s.blacks t.blacks && int_eq s.span t.span))) h in
      let rest_2 = second_so (nat_eq s.cols t.cols)
      (pointwise nat_eq s.table t.table && (pointwise int_eq s.blacks t.blacks && int_eq s.span t.span)) rest in
      let rest_3 = second_so (pointwise nat_eq s.table t.table)
      (pointwise int_eq s.blacks t.blacks && int_eq s.span t.span) rest_2 in
      let rows : s.rows ≡ t.rows = eqb-true s.rows t.rows (first_so (nat_eq s.rows t.rows) _ h) in
      let cols : s.cols ≡ t.cols = eqb-true s.cols t.cols (first_so (nat_eq s.cols t.cols) _ rest) in
      let table = (bytes_decides s.table t.table).0 (first_so (pointwise nat_eq s.table t.table) _ rest_2) in
      let blacks = (signed_items s.blacks t.blacks).0 (first_so (pointwise int_eq s.blacks t.blacks) _ rest_3) in
      let span = (signed_Decides s.span t.span).0 (second_so (pointwise int_eq s.blacks t.blacks) (int_eq s.span t.span)
      rest_3) in
      λ i. record { rows = rows i; cols = cols i; table = table i; blacks = blacks i; span = span i },
  λ same.
      let rows : nat_eq s.rows t.rows ≡ true = eq-eqb s.rows t.rows (ap (λ (p : Parameters). p.rows) same) in
      let cols : nat_eq s.cols t.cols ≡ true = eq-eqb s.cols t.cols (ap (λ (p : Parameters). p.cols) same) in
      let table : pointwise nat_eq s.table t.table ≡ true =
      (bytes_decides s.table t.table).1 (ap (λ (p : Parameters). p.table) same) in
      let blacks : pointwise int_eq s.blacks t.blacks ≡ true =
      (signed_items s.blacks t.blacks).1 (ap (λ (p : Parameters). p.blacks) same) in
      let span : int_eq s.span t.span ≡ true = (signed_Decides s.span t.span).1 (ap (λ (p : Parameters). p.span) same)
      in
      λ i. rows i && (cols i && (table i && (blacks i && span i))),
)

-- being the same is symmetric and transitive
pub same_laws : IsPartialEquivalence same_parameters
same_laws = record {
  symm = λ s t. same_from_decides (same_parameters s t) (same_parameters t s) (same_is s t)
      (λ h. sym ((same_is t s).0 h), λ e. (same_is t s).1 (sym e));
  trans = λ s t u h g. (same_is s u).1 ((same_is s t).0 h ∙ (same_is t u).0 g);
}

-- equal stages are alike
pub same_stages : (s t : Parameters) → same_parameters s t ≡ true
    → AreAlike IsArea (λ (s : Parameters) (input : Shape). input)
    (λ (s : Parameters) (input : Shape) (rect : Rect). rect) linear_plane s t
same_stages s t equal =
    let same : s ≡ t = (same_is s t).0 equal in
    record {
      inputs = λ input takes. subst (λ (p : Parameters). IsArea p input) same takes;
      shapes = λ input. refl;
      needs = λ input rect. refl;
      meanings = λ P. ap (λ (p : Parameters). linear_plane p P) same;
    }
