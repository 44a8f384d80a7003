use Rattle.std.proofs.Common.{ℕ, List, get_or, Option, Ok, Err, sym, ◌∙◌, ap, subst, arith}
use Rattle.std.specs.List.{slice_get}
use Rattle.std.specs.List.Sorted.{IsNonDecreasing}
use Rattle.std.proofs.lemmas.Bool.{cases_lt}
use Rattle.std.proofs.lemmas.List.Sorted.{searched}
use Rattle.opcode_stages.specs.inner.Places.{IsFirstPlace, IsLeastFrom}
use Rattle.opcode_stages.proofs.Lookups.{first_place, has_one}
use Rattle.opcode_stages.proofs.places.Places.first_from.Goals as goal

pub returns-in-Ok : goal.returns-in-Ok
returns-in-Ok c =
    let low = c.args.low in
    let at = c.in-Ok.field-0 in
    let items = c.as_slice.ensures in
    let xs = c.as_slice.result.now in
    let rising : IsNonDecreasing xs = subst IsNonDecreasing (sym items) c.args.self.now.rising in
    let h = searched xs low (Ok at) c.in-Ok.ensures.position (λ i j order within. rising i j 0 order within) in
    subst (λ (ys : List ℕ). IsLeastFrom ys low low) items (record {
      not_below = omega arith;
      listed = has_one xs low at h.0 h.1;
      least = λ k inside. cases_lt (get_or xs k 0) low;
    })

pub returns-in-Err : goal.returns-in-Err
returns-in-Err c =
    let low = c.args.low in
    let at = c.in-Err.at in
    let items = c.as_slice.ensures in
    let xs = c.as_slice.result.now in
    let rising : IsNonDecreasing xs = subst IsNonDecreasing (sym items) c.args.self.now.rising in
    let h = searched xs low (Err at) c.in-Err.ensures.position (λ i j order within. rising i j 0 order within) in
    subst (λ (ys : List ℕ). IsFirstPlace ys low c.copied.result) items
    (subst (λ (o : Option ℕ). IsFirstPlace xs low o) (ap (λ (ys : List ℕ). slice_get ys at) items
    ∙ sym (c.copied.ensures ∙ c.get.ensures.value))
    (first_place xs low at rising h.0 h.1 h.2))
