-- Laws of the samples of a plane that a function of the place gives.
use Rattle.std.proofs.Common.{◌≡◌, ℕ, zero, suc, ◌+◌, ◌*◌, ◌/◌, ◌%◌, ◌<◌, List, length, get_or, refl, ◌∙◌, ap, subst}
use Rattle.std.proofs.Common.{arith}
use Rattle.std.proofs.lemmas.Nat.{div-mul-add, mod-mul-add, mul-add-lt, div-add-mod', div_below, mod_below}
use Rattle.std.proofs.lemmas.List.FromFn.{length-map-range_with_len, get_or-map-range_with_len, fill_by_all}
use Rattle.plane_view.specs.Plane.{place, samples_of}

-- how many samples there are
pub length-samples_of : (rows cols planes : ℕ) (f : ℕ → ℕ → ℕ → ℕ) → length (samples_of rows cols planes f)
    ≡ rows * cols * planes
unfolding samples_of
length-samples_of rows cols planes f = length-map-range_with_len _ 0 (rows * cols * planes)

-- a place lies within its rows
pub place_below : (rows cols planes r c p : ℕ) → r < rows → c < cols → p < planes
    → place cols planes r c p < rows * cols * planes
place_below rows cols planes r c p hr hc hp =
    let pixel : r * cols + c < cols * rows = mul-add-lt r cols c rows hr hc in
    let sample : (r * cols + c) * planes + p < planes * (cols * rows) =
    mul-add-lt (r * cols + c) planes p (cols * rows) pixel hp in
    omega (arith, sample)

-- the sample at a place
pub get_or-samples_of : (rows cols planes : ℕ) (f : ℕ → ℕ → ℕ → ℕ) (r c p : ℕ) → r < rows → c < cols → p < planes
    → get_or (samples_of rows cols planes f) (place cols planes r c p) 0 ≡ f r c p
unfolding samples_of
get_or-samples_of rows cols planes f r c p hr hc hp =
    get_or-map-range_with_len (λ i. f (i / planes / cols) (i / planes % cols) (i % planes)) 0 (rows * cols * planes)
    (place cols planes r c p) (place cols planes r c p) 0 (place_below rows cols planes r c p hr hc hp) (omega arith)
    ∙ (rw (
      div-mul-add (r * cols + c) planes p hp,
      mod-mul-add (r * cols + c) planes p hp,
      div-mul-add r cols c hc,
      mod-mul-add r cols c hc,
    ) refl)

-- a product above a number has no factor 0
pub second_positive : (a b k : ℕ) → k < a * b → 0 < b
second_positive a zero k h = absurd (omega arith)
second_positive a (suc b) k h = omega arith

-- the place of what stands at an index
place_at : (cols planes k : ℕ) → place cols planes (k / planes / cols) (k / planes % cols) (k % planes) ≡ k
place_at cols planes k = ap (λ q. q * planes + k % planes) (div-add-mod' (k / planes) cols) ∙ div-add-mod' k planes

-- a list of that length with these samples at its places
pub same_samples : (rows cols planes : ℕ) (f : ℕ → ℕ → ℕ → ℕ) (xs : List ℕ) → length xs ≡ rows * cols * planes
    → ((r c p : ℕ) → r < rows → c < cols → p < planes → get_or xs (place cols planes r c p) 0 ≡ f r c p)
    → xs ≡ samples_of rows cols planes f
unfolding samples_of
same_samples rows cols planes f xs len each =
    fill_by_all (λ i. f (i / planes / cols) (i / planes % cols) (i % planes)) xs (rows * cols * planes) 0 len
    (λ k h.
    let some_planes : 0 < planes = second_positive (rows * cols) planes k h in
    let pixel : k / planes < rows * cols = div_below k planes (rows * cols) some_planes h in
    let some_cols : 0 < cols = second_positive rows cols (k / planes) pixel in
    subst (λ (i : ℕ). get_or xs i 0 ≡ f (k / planes / cols) (k / planes % cols) (k % planes)) (place_at cols planes k)
    (each (k / planes / cols) (k / planes % cols) (k % planes) (div_below (k / planes) cols rows some_cols pixel)
    (mod_below (k / planes) cols some_cols) (mod_below k planes some_planes)))
