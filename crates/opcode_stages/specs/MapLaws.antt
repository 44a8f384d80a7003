-- Laws of maps as stages: this project's own.
use Rattle.std.specs.Prelude.{⊤}
use Rattle.std.proofs.Common.{◌≡◌, true, refl, ap, Decides, if◌then◌else◌}
use Rattle.std.proofs.lemmas.Bool.Decides.{Decides-and, Decides-eqb, Decides-like}
use Rattle.std.specs.Cmp.Lexicographic.{pointwise_decides}
use Rattle.plane_view.specs.declared.Rect.{Rect}
use Rattle.plane_view.specs.declared.Shape.{Shape}
use Rattle.stage_core.specs.Stages.{AreAlike, RestsOn}
use Rattle.opcode_stages.specs.contracts.map_table.MapTablePartialEq.TheImpl.{ghosts}
use Rattle.opcode_stages.specs.Maps.{Mapping, is_mapped, entry_of, mapped, mapped_at}
use Rattle.opcode_stages.specs.Equality.{rect_equality}

-- a mapped sample rests on the sample there
pub map_rests : (m : Mapping) (input : Shape) (rect : Rect) → RestsOn (mapped_at m) input.planes rect input.planes rect
map_rests m input rect = record {
  same = λ f g agree r c p pixel plane. ap (λ v. if is_mapped m r c p then entry_of m.table v else v)
      (agree r c p pixel plane);
}

-- two maps are equal exactly where what they change, and their tables, are equal
pub map_equality : (s t : Mapping) → Decides (ghosts.eq s t) (s ≡ t)
map_equality s t =
    Decides-like (ghosts.eq s t)
    (λ (h : (s.rect ≡ t.rect)
    × ((s.plane ≡ t.plane) × ((s.planes ≡ t.planes)
    × ((s.row_pitch ≡ t.row_pitch) × ((s.col_pitch ≡ t.col_pitch) × (s.table ≡ t.table)))))).
    λ i. record {
      rect = h.0 i;
      plane = h.1.0 i;
      planes = h.1.1.0 i;
      row_pitch = h.1.1.1.0 i;
      col_pitch = h.1.1.1.1.0 i;
      table = h.1.1.1.1.1 i;
    })
    (λ (e : s ≡ t). (
      ap (λ (m : Mapping). m.rect) e,
      (
        ap (λ (m : Mapping). m.plane) e,
        (
          ap (λ (m : Mapping). m.planes) e,
          (
            ap (λ (m : Mapping). m.row_pitch) e,
            (ap (λ (m : Mapping). m.col_pitch) e, ap (λ (m : Mapping). m.table) e),
          ),
        ),
      ),
    ))
    (Decides-and _ _ (rect_equality s.rect t.rect)
    (Decides-and _ _ (Decides-eqb s.plane t.plane)
    (Decides-and _ _ (Decides-eqb s.planes t.planes)
    (Decides-and _ _ (Decides-eqb s.row_pitch t.row_pitch)
    (Decides-and _ _ (Decides-eqb s.col_pitch t.col_pitch) (pointwise_decides Decides-eqb s.table t.table))))))

-- equal maps are alike
pub map_alike : (s t : Mapping) → ghosts.eq s t ≡ true
    → AreAlike (λ (s : Mapping) input. ⊤) (λ (s : Mapping) input. input) (λ (s : Mapping) input rect. rect)
    (λ (s : Mapping) P. mapped s P) s t
map_alike s t equal =
    let same : s ≡ t = (map_equality s t).0 equal in
    record {
      inputs = λ input takes. takes;
      shapes = λ input. refl;
      needs = λ input rect. refl;
      meanings = λ P. ap (λ (m : Mapping). mapped m P) same;
    }
