-- What a band leaves of the list of keys, with one tier more on top.
use Rattle.std.proofs.Common.{◌≡◌, ℕ, ◌+◌, ◌<◌, ◌≤◌, List, [], ◌∷◌, ◌++◌, length, get_or, take, Bool, true, false, cond}
use Rattle.std.proofs.Common.{not, refl, sym, ◌∙◌, ap, arith}
use Rattle.std.specs.List.{All}
use Rattle.std.specs.List.Sorted.{IsStrictlyIncreasing}
use Rattle.std.proofs.lemmas.Bool.{not-true}
use Rattle.std.proofs.lemmas.List.{take_more, append-nil}
use Rattle.std.proofs.lemmas.List.Elements.{filter_more, filter_agree, filter_passes}
use Rattle.std.proofs.lemmas.List.Kept.{AllPairs-from_increasing, IsStrictlyIncreasing-filter}
use Rattle.plane_view.specs.declared.Rect.{Rect}
use Rattle.plane_view.specs.declared.Shape.{Shape}
use Rattle.kept_cells.specs.Tiers.{Tier}
use Rattle.stage_deps.specs.Cells.{meeting}
use Rattle.stage_deps.proofs.Coverage.{meeting_rises}
use Rattle.kept_cells.specs.Held.{Held, Takes, fresh, missing}
use Rattle.kept_cells.specs.Missing.{needs_of, wanted_below}
use Rattle.kept_cells.specs.Kept.{Kept, brought, put_key, brought_each, put_each, size_of, brought_above, put_above}
use Rattle.kept_cells.specs.Kept.{keep_base, keep}
use Rattle.kept_cells.proofs.Lower.{top_number, wanted_last, wanted_same, missing_same}

-- ---- one number more

brought_push : (c : Kept) (plane : ℕ) (xs : List ℕ) (k : ℕ) → brought_each c plane (xs ++ k ∷ [])
    ≡ brought (brought_each c plane xs) plane k
brought_push c plane [] k = refl
brought_push c plane (x ∷ xs) k = brought_push (brought c plane x) plane xs k

put_push : (c : Kept) (plane : ℕ) (size : ℕ → ℕ) (xs : List ℕ) (k : ℕ) → put_each c plane size (xs ++ k ∷ [])
    ≡ put_key (put_each c plane size xs) plane k (size k)
put_push c plane size [] k = refl
put_push c plane size (x ∷ xs) k = put_push (put_key c plane x (size x)) plane size xs k

pub brought_step : (first old new : Kept) (held : Held) (plane : ℕ) (numbers : List ℕ) (i : ℕ) (found : Bool)
    → i < length numbers → found ≡ held.holds plane (get_or numbers i 0)
    → old ≡ brought_each first plane (fresh held plane (take i numbers))
    → (found ≡ true → new ≡ brought old plane (get_or numbers i 0)) → (found ≡ false → new ≡ old)
    → new ≡ brought_each first plane (fresh held plane (take (i + 1) numbers))
brought_step first old new held plane numbers i true within is was brings leaves =
    let n : ℕ = get_or numbers i 0 in
    let more : fresh held plane (take (i + 1) numbers) ≡ fresh held plane (take i numbers) ++ n ∷ [] =
    filter_more (held.holds plane) numbers i 0 within
    ∙ ap (λ b. fresh held plane (take i numbers) ++ cond b (n ∷ []) []) (sym is) in
    brings refl ∙ ap (λ (c : Kept). brought c plane n) was
    ∙ sym (brought_push first plane (fresh held plane (take i numbers)) n)
    ∙ ap (λ (xs : List ℕ). brought_each first plane xs) (sym more)
brought_step first old new held plane numbers i false within is was brings leaves =
    let n : ℕ = get_or numbers i 0 in
    let more : fresh held plane (take (i + 1) numbers) ≡ fresh held plane (take i numbers) =
    filter_more (held.holds plane) numbers i 0 within
    ∙ ap (λ b. fresh held plane (take i numbers) ++ cond b (n ∷ []) []) (sym is) ∙ append-nil _ in
    leaves refl ∙ was ∙ ap (λ (xs : List ℕ). brought_each first plane xs) (sym more)

pub put_step : (first old new : Kept) (plane : ℕ) (size : ℕ → ℕ) (numbers : List ℕ) (i m : ℕ) → i < length numbers
    → old ≡ put_each first plane size (take i numbers) → new ≡ put_key old plane (get_or numbers i 0) m
    → m ≡ size (get_or numbers i 0)
    → new ≡ put_each first plane size (take (i + 1) numbers)
put_step first old new plane size numbers i m within was puts long =
    let n : ℕ = get_or numbers i 0 in
    puts ∙ ap (λ (k : ℕ). put_key old plane n k) long ∙ ap (λ (c : Kept). put_key c plane n (size n)) was
    ∙ sym (put_push first plane size (take i numbers) n)
    ∙ ap (λ (xs : List ℕ). put_each first plane size xs) (sym (take_more numbers i 0 within))

-- ---- a number that is put isn't held

-- none of the numbers from i on is held
abbrev pub AbsentFrom : Held → ℕ → List ℕ → ℕ → Type 0
AbsentFrom held plane numbers i = (j : ℕ) → i ≤ j → j < length numbers → held.holds plane (get_or numbers j 0) ≡ false

not_held : (old new : Bool) → (new ≡ true → old ≡ true) → old ≡ false → new ≡ false
not_held old false from is = refl
not_held old true from is = let bad = from refl in cc

pub absent_step : (old new : Held) (plane : ℕ) (xs numbers : List ℕ) (i : ℕ) → IsStrictlyIncreasing numbers
    → Takes old new plane (get_or numbers i 0) xs
    → AbsentFrom old plane numbers i → AbsentFrom new plane numbers (i + 1)
absent_step old new plane xs numbers i rising takes absent j past within =
    let below : get_or numbers i 0 < get_or numbers j 0 = AllPairs-from_increasing numbers rising i j 0 (omega arith)
    within in
    not_held (old.holds plane (get_or numbers j 0)) (new.holds plane (get_or numbers j 0))
    (λ now. (takes.others plane (get_or numbers j 0) (λ _ e. omega arith) now).0)
    (absent j (omega arith) within)

pub missing_rises : (held : Held) (plane : ℕ) (cells wanted : List Rect)
    → IsStrictlyIncreasing (missing held plane (meeting cells wanted))
missing_rises held plane cells wanted = IsStrictlyIncreasing-filter (λ k. not (held.holds plane k))
    (meeting cells wanted) (meeting_rises cells wanted)

pub missing_absent : (held : Held) (plane : ℕ) (numbers : List ℕ)
    → All (λ k. held.holds plane k ≡ false) (missing held plane numbers)
missing_absent held plane numbers =
    λ i d within. not-true _ (filter_passes (λ k. not (held.holds plane k)) numbers i d within)

-- what is missing at first isn't held later, where only lower planes were put in between
pub absent_later : (first later : Held) (plane : ℕ) (numbers : List ℕ)
    → ((k : ℕ) → later.holds plane k ≡ true → first.holds plane k ≡ true)
    → All (λ k. later.holds plane k ≡ false) (missing first plane numbers)
absent_later first later plane numbers from = λ i d within.
    let k : ℕ = get_or (missing first plane numbers) i d in
    not_held (first.holds plane k) (later.holds plane k) (from k) (missing_absent first plane numbers i d within)

-- ---- the same where the same is held

pub fresh_same : (old new : Held) (plane : ℕ) (numbers : List ℕ) → ((p k : ℕ) → new.holds p k ≡ old.holds p k)
    → fresh new plane numbers ≡ fresh old plane numbers
fresh_same old new plane numbers same = filter_agree (new.holds plane) (old.holds plane) (λ k. same plane k) numbers

brought_same : {S : Type 0} (old new : Held) (need : S → Shape → Rect → Rect) (c : Kept) (plane : ℕ)
    (tiers : List (Tier S)) (wanted : List Rect) → ((p k : ℕ) → new.holds p k ≡ old.holds p k)
    → brought_above new need c plane tiers wanted ≡ brought_above old need c plane tiers wanted
brought_same old new need c plane [] wanted same = refl
brought_same old new need c plane (tier ∷ tiers) wanted same =
    let above = brought_same old new need c (plane + 1) tiers wanted same in
    let numbers : fresh new (plane + 1) (meeting tier.cells (wanted_below new need (plane + 1) tiers wanted))
    ≡ fresh old (plane + 1) (meeting tier.cells (wanted_below old need (plane + 1) tiers wanted)) =
    ap (λ (rects : List Rect). fresh new (plane + 1) (meeting tier.cells rects))
    (wanted_same old new need (plane + 1) tiers wanted same)
    ∙ fresh_same old new (plane + 1) (meeting tier.cells (wanted_below old need (plane + 1) tiers wanted)) same in
    ap (λ (xs : List ℕ). brought_each (brought_above new need c (plane + 1) tiers wanted) (plane + 1) xs) numbers
    ∙ ap (λ (d : Kept). brought_each d (plane + 1)
    (fresh old (plane + 1) (meeting tier.cells (wanted_below old need (plane + 1) tiers wanted)))) above

put_same : {S : Type 0} (old new : Held) (need : S → Shape → Rect → Rect) (c : Kept) (plane : ℕ) (tiers : List (Tier S))
    (wanted : List Rect) → ((p k : ℕ) → new.holds p k ≡ old.holds p k)
    → put_above new need c plane tiers wanted ≡ put_above old need c plane tiers wanted
put_same old new need c plane [] wanted same = refl
put_same old new need c plane (tier ∷ tiers) wanted same =
    let size = size_of tier.cells tier.shape.planes in
    let numbers : missing new (plane + 1) (meeting tier.cells (wanted_below new need (plane + 1) tiers wanted))
    ≡ missing old (plane + 1) (meeting tier.cells (wanted_below old need (plane + 1) tiers wanted)) =
    ap (λ (rects : List Rect). missing new (plane + 1) (meeting tier.cells rects))
    (wanted_same old new need (plane + 1) tiers wanted same)
    ∙ missing_same old new (plane + 1) (meeting tier.cells (wanted_below old need (plane + 1) tiers wanted)) same in
    ap (λ (xs : List ℕ). put_above new need (put_each c (plane + 1) size xs) (plane + 1) tiers wanted) numbers
    ∙ put_same old new need (put_each c (plane + 1) size
    (missing old (plane + 1) (meeting tier.cells (wanted_below old need (plane + 1) tiers wanted)))) (plane + 1)
    tiers wanted same

pub base_same : (old new : Held) (c : Kept) (planes : ℕ) (cells wanted : List Rect)
    → ((p k : ℕ) → new.holds p k ≡ old.holds p k) → keep_base new c planes cells wanted ≡ keep_base old c planes cells
    wanted
base_same old new c planes cells wanted same =
    ap (λ (xs : List ℕ). put_each (brought_each c 0 xs) 0 (size_of cells planes) (missing new 0 (meeting cells wanted)))
    (fresh_same old new 0 (meeting cells wanted) same)
    ∙ ap (λ (xs : List ℕ). put_each (brought_each c 0 (fresh old 0 (meeting cells wanted))) 0 (size_of cells planes) xs)
    (missing_same old new 0 (meeting cells wanted) same)

pub keep_same : {S : Type 0} (old new : Held) (need : S → Shape → Rect → Rect) (c : Kept) (planes : ℕ)
    (cells : List Rect) (tiers : List (Tier S)) (wanted : List Rect) → ((p k : ℕ) → new.holds p k ≡ old.holds p k)
    → keep new need c planes cells tiers wanted ≡ keep old need c planes cells tiers wanted
keep_same old new need c planes cells tiers wanted same =
    put_same old new need (keep_base new (brought_above new need c 0 tiers wanted) planes cells
    (wanted_below new need 0 tiers wanted)) 0 tiers wanted same
    ∙ ap (λ (d : Kept). put_above old need d 0 tiers wanted)
    (base_same old new (brought_above new need c 0 tiers wanted) planes cells (wanted_below new need 0 tiers wanted)
    same
    ∙ ap (λ (d : Kept). keep_base old d planes cells (wanted_below new need 0 tiers wanted))
    (brought_same old new need c 0 tiers wanted same)
    ∙ ap (λ (rects : List Rect). keep_base old (brought_above old need c 0 tiers wanted) planes cells rects)
    (wanted_same old new need 0 tiers wanted same))

-- ---- one tier more on top

brought_last : {S : Type 0} (held : Held) (need : S → Shape → Rect → Rect) (c : Kept) (plane : ℕ)
    (tiers : List (Tier S)) (tier : Tier S) (wanted : List Rect)
    → brought_above held need c plane (tiers ++ tier ∷ []) wanted
    ≡ brought_above held need
    (brought_each c (top_number plane tiers) (fresh held (top_number plane tiers) (meeting tier.cells wanted)))
    plane tiers (needs_of held need (top_number plane tiers) tier wanted)
brought_last held need c plane [] tier wanted =
    let is : plane + 1 ≡ plane + 0 + 1 = omega arith in
    ap (λ n. brought_each c n (fresh held n (meeting tier.cells wanted))) is
brought_last held need c plane (first ∷ tiers) tier wanted =
    let is : top_number (plane + 1) tiers ≡ plane + (length (first ∷ tiers)) + 1 = omega arith in
    let numbers = λ (rects : List Rect). fresh held (plane + 1) (meeting first.cells rects) in
    ap (λ (d : Kept). brought_each d (plane + 1)
    (numbers (wanted_below held need (plane + 1) (tiers ++ tier ∷ []) wanted)))
    (brought_last held need c (plane + 1) tiers tier wanted)
    ∙ ap (λ (rects : List Rect). brought_each
    (brought_above held need (brought_each c (top_number (plane + 1) tiers)
    (fresh held (top_number (plane + 1) tiers) (meeting tier.cells wanted))) (plane + 1) tiers
    (needs_of held need (top_number (plane + 1) tiers) tier wanted)) (plane + 1) (numbers rects))
    (wanted_last held need (plane + 1) tiers tier wanted)
    ∙ ap (λ n. brought_each (brought_above held need (brought_each c n (fresh held n (meeting tier.cells wanted)))
    (plane + 1) tiers (needs_of held need n tier wanted)) (plane + 1)
    (numbers (wanted_below held need (plane + 1) tiers (needs_of held need n tier wanted)))) is

put_last : {S : Type 0} (held : Held) (need : S → Shape → Rect → Rect) (c : Kept) (plane : ℕ) (tiers : List (Tier S))
    (tier : Tier S) (wanted : List Rect)
    → put_above held need c plane (tiers ++ tier ∷ []) wanted
    ≡ put_each (put_above held need c plane tiers (needs_of held need (top_number plane tiers) tier wanted))
    (top_number plane tiers) (size_of tier.cells tier.shape.planes)
    (missing held (top_number plane tiers) (meeting tier.cells wanted))
put_last held need c plane [] tier wanted =
    let is : plane + 1 ≡ plane + 0 + 1 = omega arith in
    ap (λ n. put_each c n (size_of tier.cells tier.shape.planes) (missing held n (meeting tier.cells wanted))) is
put_last held need c plane (first ∷ tiers) tier wanted =
    let is : top_number (plane + 1) tiers ≡ plane + (length (first ∷ tiers)) + 1 = omega arith in
    let step = λ (rects : List Rect). put_each c (plane + 1) (size_of first.cells first.shape.planes)
    (missing held (plane + 1) (meeting first.cells rects)) in
    let size = size_of tier.cells tier.shape.planes in
    ap (λ (rects : List Rect). put_above held need (step rects) (plane + 1) (tiers ++ tier ∷ []) wanted)
    (wanted_last held need (plane + 1) tiers tier wanted)
    ∙ put_last held need (step
    (wanted_below held need (plane + 1) tiers (needs_of held need (top_number (plane + 1) tiers) tier wanted)))
    (plane + 1) tiers tier wanted
    ∙ ap (λ n. put_each (put_above held need
    (step (wanted_below held need (plane + 1) tiers (needs_of held need n tier wanted))) (plane + 1) tiers
    (needs_of held need n tier wanted)) n size (missing held n (meeting tier.cells wanted))) is

pub keep_top : {S : Type 0} (held : Held) (need : S → Shape → Rect → Rect) (c : Kept) (planes : ℕ) (cells : List Rect)
    (all tiers : List (Tier S)) (tier : Tier S) (wanted : List Rect) (plane : ℕ) → all ≡ tiers ++ tier ∷ []
    → plane ≡ length tiers + 1
    → keep held need c planes cells all wanted
    ≡ put_each (keep held need (brought_each c plane (fresh held plane (meeting tier.cells wanted))) planes cells tiers
    (needs_of held need plane tier wanted)) plane (size_of tier.cells tier.shape.planes)
    (missing held plane (meeting tier.cells wanted))
keep_top held need c planes cells all tiers tier wanted plane split is =
    let same : 0 + length tiers + 1 ≡ plane = omega arith in
    let size = size_of tier.cells tier.shape.planes in
    let top = top_number 0 tiers in
    ap (λ (xs : List (Tier _)). keep held need c planes cells xs wanted) split
    ∙ put_last held need (keep_base held (brought_above held need c 0 (tiers ++ tier ∷ []) wanted) planes cells
    (wanted_below held need 0 (tiers ++ tier ∷ []) wanted)) 0 tiers tier wanted
    ∙ ap (λ (d : Kept). put_each
    (put_above held need (keep_base held d planes cells (wanted_below held need 0 (tiers ++ tier ∷ []) wanted)) 0
    tiers (needs_of held need top tier wanted)) top size (missing held top (meeting tier.cells wanted)))
    (brought_last held need c 0 tiers tier wanted)
    ∙ ap (λ (rects : List Rect). put_each
    (put_above held need (keep_base held
    (brought_above held need (brought_each c top (fresh held top (meeting tier.cells wanted))) 0 tiers
    (needs_of held need top tier wanted)) planes cells rects) 0 tiers (needs_of held need top tier wanted)) top size
    (missing held top (meeting tier.cells wanted))) (wanted_last held need 0 tiers tier wanted)
    ∙ ap (λ n. put_each (keep held need (brought_each c n (fresh held n (meeting tier.cells wanted))) planes cells tiers
    (needs_of held need n tier wanted)) n size (missing held n (meeting tier.cells wanted))) same
