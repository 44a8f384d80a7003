-- The bands of a rectangle, and the session after some of them.
use Rattle.std.proofs.Common.{◌≡◌, ℕ, zero, suc, ◌+◌, ◌-◌, ◌*◌, ◌/◌, ◌<◌, ◌≤◌, max, min, ◌⊎◌, inl, inr, Ok, List}
use Rattle.std.proofs.Common.{[], ◌∷◌, ◌++◌, map, refl, sym, ◌∙◌, ap, subst, arith}
use Rattle.std.specs.Int.{div_ceil}
use Rattle.std.specs.List.{range_with_len}
use Rattle.std.proofs.Math.Nat.{mul-le-mul_right}
use Rattle.std.proofs.lemmas.Grind.{div_ceil_times}
use Rattle.std.proofs.lemmas.List.{append-nil}
use Rattle.std.proofs.lemmas.List.FromFn.{map-range_with_len_more}
use Rattle.std.proofs.lemmas.Nat.{div-add-mod', mod_below}
use Rattle.plane_view.specs.declared.Rect.{Rect}
use Rattle.plane_view.proofs.Cuts.{part_begins, part_of_place}
use Rattle.region_session.specs.Sessions.{Opened as Session}
use Rattle.dev_stages.specs.declared.stage.DevStage.{DevStage}
use Rattle.developer.specs.Answered.{AreMade, IsRefused, MadeUpTo}
use Rattle.developer.specs.Develop.{IsInForce}
use Rattle.developer.specs.inner.Developed.{StagesStay}
use Rattle.developer.specs.Sessions.{InForce, after_band, after_bands, band_at, bands_of, cells_of_band, cells_of_bands}
use Rattle.developer.specs.Sessions.{in_force}
use Rattle.developer.specs.declared.writing.Cause.{Cause}
use Rattle.developer.specs.declared.writing.Cause.TheVariants.{Memory}

-- one band more
pub bands_then : (s : Session DevStage) (bands : List Rect) (band : Rect) → after_bands s (bands ++ band ∷ [])
    ≡ after_band (after_bands s bands) band
bands_then s [] band = refl
bands_then s (first ∷ bands) band = bands_then (after_band s first) bands band

pub cells_then : (s : Session DevStage) (bands : List Rect) (band : Rect) → cells_of_bands s (bands ++ band ∷ [])
    ≡ cells_of_bands s bands + cells_of_band (after_bands s bands) band
cells_then s [] band = omega arith
cells_then s (first ∷ bands) band = omega (arith, cells_then (after_band s first) bands band)

-- no band yet
pub made_none : (s : Session DevStage) (work : ℕ) → AreMade s s [] work work
made_none s work = record { session = refl; work = omega arith }

-- bands, and then one more
pub made_then : (old mid new : Session DevStage) (bands : List Rect) (band : Rect) (before between after : ℕ)
    → AreMade old mid bands before between → AreMade mid new (band ∷ []) between after
    → AreMade old new (bands ++ band ∷ []) before after
made_then old mid new bands band before between after first next = record {
  session = next.session ∙ (ap (λ (s : Session DevStage). after_band s band) first.session
      ∙ sym (bands_then old bands band));
  work =
      let same : cells_of_band mid band ≡ cells_of_band (after_bands old bands) band =
      ap (λ (s : Session DevStage). cells_of_band s band) first.session in
      omega (arith, first.work, next.work, same, cells_then old bands band);
}

-- the stages stay over bands, and over one that is refused
pub stays_then : (old mid new : Session DevStage) → StagesStay old mid → StagesStay mid new → StagesStay old new
stays_then old mid new a b = record {
  plane = b.plane ∙ a.plane;
  stages = b.stages ∙ a.stages;
  side = b.side ∙ a.side;
  stamps = b.stamps ∙ a.stamps;
}

pub stays_same : (old new : Session DevStage) → new ≡ old → StagesStay old new
stays_same old new is = record {
  plane = ap (λ (s : Session DevStage). s.plane) is;
  stages = ap (λ (s : Session DevStage). s.stages) is;
  side = ap (λ (s : Session DevStage). s.side) is;
  stamps = ap (λ (s : Session DevStage). s.stamps) is;
}

pub bands_stay : (s : Session DevStage) (bands : List Rect) → StagesStay s (after_bands s bands)
bands_stay s [] = stays_same s s refl
bands_stay s (band ∷ bands) =
    let rest = bands_stay (after_band s band) bands in
    record { plane = rest.plane; stages = rest.stages; side = rest.side; stamps = rest.stamps }

pub refused_stays : (old new : Session DevStage) → IsRefused old new → StagesStay old new
refused_stays old new is = record {
  plane = ap (λ (s : Session DevStage). s.plane) is;
  stages = ap (λ (s : Session DevStage). s.stages) is;
  side = ap (λ (s : Session DevStage). s.side) is;
  stamps = ap (λ (s : Session DevStage). s.stamps) is;
}

pub made_stay : (old new : Session DevStage) (bands : List Rect) (before after : ℕ) → AreMade old new bands before after
    → StagesStay old new
made_stay old new bands before after made = stays_then old (after_bands old bands) new (bands_stay old bands)
    (stays_same (after_bands old bands) new made.session)

pub up_to_stays : (cause : Cause) (old new : Session DevStage) (bands : List Rect) (before after : ℕ)
    → MadeUpTo cause old new bands before after → StagesStay old new
up_to_stays cause old new bands before after m = elim m.outcome [
  | inl made ↦ made_stay old new m.made before after made
  | inr cut ↦ stays_then old (after_bands old m.made) new (bands_stay old m.made)
      (refused_stays (after_bands old m.made) new cut.1.refused)
]

-- what is in force with the same stages
pub stays_in_force : (now : InForce) (new : Session DevStage) → IsInForce now → StagesStay now.session new
    → IsInForce (in_force now.frame now.settings new)
stays_in_force now new is stays = record {
  frame = is.frame;
  settings = is.settings;
  stages = is.stages
      ∙ ap Ok (sym stays.stages);
}

-- of bands none was made
pub none_made : (cause : Cause) (s : Session DevStage) (bands : List Rect) (work : ℕ)
    → MadeUpTo cause s s bands work work
none_made cause s bands work = record { made = []; rest = bands; all = refl; outcome = inl (made_none s work) }

-- all of them were
pub all_made : (cause : Cause) (old new : Session DevStage) (bands : List Rect) (before after : ℕ)
    → AreMade old new bands before after → MadeUpTo cause old new bands before after
all_made cause old new bands before after made = record {
  made = bands;
  rest = [];
  all = append-nil bands;
  outcome = inl made;
}

module _ (side : ℕ) (rect : Rect) where
  -- the bands above a row of cells, and those from one on
  abbrev pub bands_to : ℕ → List Rect
  bands_to k = map (band_at side rect) (range_with_len (rect.top / side) (k - rect.top / side))

  abbrev pub bands_from : ℕ → List Rect
  bands_from k = map (band_at side rect) (range_with_len k (div_ceil rect.bottom side - k))

  -- the row from which a row of cells shows in the rectangle, or its bottom
  abbrev pub row_at : ℕ → ℕ
  row_at k = min rect.bottom (max rect.top (k * side))

-- counting in two pieces
counted : (a n m : ℕ) → range_with_len a (n + m) ≡ range_with_len a n ++ range_with_len (a + n) m
counted a zero m =
    ap (range_with_len a) (let same : zero + m ≡ m = omega arith in same)
    ∙ ap (λ (b : ℕ). range_with_len b m) (let none : a ≡ a + zero = omega arith in none)
counted a (suc n) m =
    ap (range_with_len a) (let same : suc n + m ≡ suc (n + m) = omega arith in same)
    ∙ ap (λ (xs : List ℕ). a ∷ xs) (counted (a + 1) n m ∙ ap (λ (b : ℕ). range_with_len (a + 1) n ++ range_with_len b m)
    (let next : a + 1 + n ≡ a + suc n = omega arith in next))

-- a mapped list in two pieces
map_two : {X Y : Type 0} (f : X → Y) (xs ys : List X) → map f (xs ++ ys) ≡ map f xs ++ map f ys
map_two f [] ys = refl
map_two f (x ∷ xs) ys = ap (λ (zs : List _). f x ∷ zs) (map_two f xs ys)

module _ (side : ℕ) (rect : Rect) where
  -- no band is above the first row of cells
  pub bands_to_first : bands_to side rect (rect.top / side) ≡ []
  bands_to_first = ap (λ (n : ℕ). map (band_at side rect) (range_with_len (rect.top / side) n))
      (let none : rect.top / side - rect.top / side ≡ 0 = omega arith in none)

  -- one row of cells more
  pub bands_to_next : (k : ℕ) → rect.top / side ≤ k → bands_to side rect (k + 1) ≡ bands_to side rect k
      ++ band_at side rect k ∷ []
  bands_to_next k low =
      ap (λ (n : ℕ). map (band_at side rect) (range_with_len (rect.top / side) n)) (let more : k + 1 - rect.top / side
      ≡ k - rect.top / side + 1 = omega arith in more)
      ∙ map-range_with_len_more (band_at side rect) (rect.top / side) (k - rect.top / side) k (omega (arith, low))

  -- a band and those below it
  pub bands_from_next : (k : ℕ) → k < div_ceil rect.bottom side
      → bands_from side rect k ≡ band_at side rect k ∷ bands_from side rect (k + 1)
  bands_from_next k low =
      ap (λ (n : ℕ). map (band_at side rect) (range_with_len k n)) (let more : div_ceil rect.bottom side - k
      ≡ suc (div_ceil rect.bottom side - (k + 1)) = omega (arith, low) in more)

  -- those above a row of cells, and those from it on
  pub bands_split : (k : ℕ) → rect.top / side ≤ k → k ≤ div_ceil rect.bottom side → bands_to side rect k
      ++ bands_from side rect k ≡ bands_of side rect
  bands_split k low high =
      let n : ℕ = k - rect.top / side in
      let m : ℕ = div_ceil rect.bottom side - k in
      let all : div_ceil rect.bottom side - rect.top / side ≡ n + m = omega (arith, low, high) in
      let at : rect.top / side + n ≡ k = omega (arith, low) in
      sym (ap (λ (j : ℕ). map (band_at side rect) (range_with_len (rect.top / side) j)) all
      ∙ (ap (map (band_at side rect)) (counted (rect.top / side) n m)
      ∙ (map_two (band_at side rect) (range_with_len (rect.top / side) n) (range_with_len (rect.top / side + n) m)
      ∙ ap (λ (j : ℕ). bands_to side rect k ++ map (band_at side rect) (range_with_len j m)) at)))

  module _ (some : 0 < side) (order : rect.top < rect.bottom) where
    -- the rectangle meets at least one row of cells
    pub first_below : rect.top / side < div_ceil rect.bottom side
    first_below = part_of_place rect.bottom side rect.top some order

    -- the first one has its top row
    pub row_at_first : row_at side rect (rect.top / side) ≡ rect.top
    row_at_first = omega (arith, div-add-mod' rect.top side, order)

    -- the rows below a row of cells begin below the top
    row_after : (k : ℕ) → rect.top / side ≤ k → rect.top < k * side + side
    row_after k low =
        omega (
          arith,
          mul-le-mul_right {m = rect.top / side} {n = k} side low,
          div-add-mod' rect.top side,
          mod_below rect.top side some,
        )

    -- a row of cells begins above the bottom
    pub row_before : (k : ℕ) → k < div_ceil rect.bottom side → k * side < rect.bottom
    row_before k high = part_begins rect.bottom side k some high

    -- a band is the rows from there to the next
    pub band_top : (k : ℕ) → rect.top / side ≤ k → k < div_ceil rect.bottom side
        → (band_at side rect k).top ≡ row_at side rect k
    band_top k low high = omega (arith, row_before k high, order)

    pub band_bottom : (k : ℕ) → rect.top / side ≤ k → k < div_ceil rect.bottom side
        → (band_at side rect k).bottom ≡ row_at side rect (k + 1)
    band_bottom k low high =
        let next : (k + 1) * side ≡ k * side + side = omega arith in
        rw next (omega (arith, row_after k low, row_before k high))

    pub band_order : (k : ℕ) → rect.top / side ≤ k → k < div_ceil rect.bottom side
        → (band_at side rect k).top < (band_at side rect k).bottom
    band_order k low high = omega (arith, row_after k low, row_before k high, order, some)

    -- and no more than the side of a cell or the rectangle has
    pub band_high : (k : ℕ) → (band_at side rect k).bottom - (band_at side rect k).top ≤ min (rect.bottom - rect.top)
        side
    band_high k = omega arith

    -- the last one has its bottom
    pub row_at_end : row_at side rect (div_ceil rect.bottom side) ≡ rect.bottom
    row_at_end =
        let last = div_ceil_times rect.bottom side some in
        omega (arith, last.0)

  module _ (old mid : Session DevStage) (before between k : ℕ) (low : rect.top / side ≤ k)
      (high : k < div_ceil rect.bottom side) (made : AreMade old mid (bands_to side rect k) before between)
      (new : Session DevStage) (after : ℕ) where
    -- a band more
    pub band_made : AreMade mid new (band_at side rect k ∷ []) between after
        → AreMade old new (bands_to side rect (k + 1)) before after
    band_made next =
        subst (λ (bands : List Rect). AreMade old new bands before after) (sym (bands_to_next k low))
        (made_then old mid new (bands_to side rect k) (band_at side rect k) before between after made next)

    -- a band after which answering stopped, or in which memory ran out
    pub band_left : (cause : Cause) → AreMade mid new (band_at side rect k ∷ []) between after
        ⊎ ((cause ≡ Memory) × IsRefused mid new) → MadeUpTo cause old new (bands_of side rect) before after
    band_left cause (inl next) = record {
      made = bands_to side rect (k + 1);
      rest = bands_from side rect (k + 1);
      all = bands_split (k + 1) (omega (arith, low)) (omega (arith, high));
      outcome = inl (band_made next);
    }
    band_left cause (inr (memory, refused)) = record {
      made = bands_to side rect k;
      rest = bands_from side rect k;
      all = bands_split k low (omega (arith, high));
      outcome = inr (
        memory,
        record {
          band = band_at side rect k;
          others = bands_from side rect (k + 1);
          next = bands_from_next k high;
          refused = subst (λ (s : Session DevStage). IsRefused s new) made.session refused;
        },
      );
    }

-- what is known of the band of a row of cells
pub record IsBand (side : ℕ) (rect : Rect) (k : ℕ) (band : Rect) : Type 0 where
  pub left : band.left ≡ rect.left
  pub right : band.right ≡ rect.right
  pub top : band.top ≡ row_at side rect k
  pub bottom : band.bottom ≡ row_at side rect (k + 1)
  pub order : band.top < band.bottom
  pub low : band.bottom ≤ rect.bottom
  pub high : band.bottom - band.top ≤ min (rect.bottom - rect.top) side

pub band_is : (side : ℕ) (rect : Rect) (k : ℕ) (band : Rect) → 0 < side → rect.top < rect.bottom → rect.top / side ≤ k
    → k < div_ceil rect.bottom side → band ≡ band_at side rect k → IsBand side rect k band
band_is side rect k band some order low high is =
    let top : band.top ≡ (band_at side rect k).top = ap (λ (r : Rect). r.top) is in
    let bottom : band.bottom ≡ (band_at side rect k).bottom = ap (λ (r : Rect). r.bottom) is in
    record {
      left = ap (λ (r : Rect). r.left) is;
      right = ap (λ (r : Rect). r.right) is;
      top = top ∙ band_top side rect some order k low high;
      bottom = bottom ∙ band_bottom side rect some order k low high;
      order = omega (arith, top, bottom, band_order side rect some order k low high);
      low = omega (arith, bottom);
      high = omega (arith, top, bottom, band_high side rect some order k);
    }
