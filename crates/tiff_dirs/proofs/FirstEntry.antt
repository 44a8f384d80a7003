-- The first entry with a tag, found by looking at the entries one after the other.
use Rattle.std.proofs.Common.{◌≡◌, ℕ, zero, suc, ◌+◌, ◌*◌, ◌<◌, ◌≤◌, ◌==◌, if◌then◌else◌, Bool, true, false, List, map}
use Rattle.std.proofs.Common.{None, Some, refl, sym, arith, eq-eqb}
use Rattle.std.proofs.lemmas.Bool.{ne_eqb}
use Rattle.std.specs.List.{find, range_with_len}
use Rattle.tiff_dirs.specs.Entries.{Slot, entries, slot_at}
use Rattle.tiff_dirs.specs.Header.{directory_fits, entry_count, order_of}
use Rattle.tiff_dirs.specs.Numbers.{short_at}

-- what holds of the items behind the first one
rest_fails : {X : Type 0} (p : X → Bool) (f : ℕ → X) (a n : ℕ) → ((k : ℕ) → k < suc n → p (f (a + k)) ≡ false)
    → (k : ℕ) → k < n → p (f (a + 1 + k)) ≡ false
rest_fails p f a n fails k within =
    let next : a + (k + 1) ≡ a + 1 + k = omega arith in
    rw next at (fails (k + 1) (omega arith))

-- nothing is found where no item passes
find-map-none : {X : Type 0} (p : X → Bool) (f : ℕ → X) (a n : ℕ) → ((k : ℕ) → k < n → p (f (a + k)) ≡ false)
    → find p (map f (range_with_len a n)) ≡ None
find-map-none p f a zero fails = refl
find-map-none p f a (suc n) fails =
    let first : a + 0 ≡ a = omega arith in
    let here = rw first at (fails 0 (omega arith)) in
    rw here (find-map-none p f (a + 1) n (rest_fails p f a n fails))

-- the first item that passes is found
find-map-first : {X : Type 0} (p : X → Bool) (f : ℕ → X) (a n i : ℕ) → i < n → ((k : ℕ) → k < i → p (f (a + k)) ≡ false)
    → p (f (a + i)) ≡ true → find p (map f (range_with_len a n)) ≡ Some (f (a + i))
find-map-first p f a zero i within fails passes = absurd (omega arith)
find-map-first p f a (suc n) zero within fails passes =
    let first : a + 0 ≡ a = omega arith in
    let here = rw first at passes in
    rw (here, first) refl
find-map-first p f a (suc n) (suc i) within fails passes =
    let first : a + 0 ≡ a = omega arith in
    let here = rw first at (fails 0 (omega arith)) in
    let there : a + suc i ≡ a + 1 + i = omega arith in
    let rest = find-map-first p f (a + 1) n i (omega arith) (rest_fails p f a i fails) (rw there at passes) in
    rw (here, there) rest

-- the tag of the entry whose 12 bytes begin at a place
slot_at-tag : (bytes : List ℕ) (place : ℕ) → (slot_at bytes place).tag ≡ short_at (order_of bytes) bytes place
unfolding slot_at
slot_at-tag bytes place = refl

-- the places where no entry with the tag begins
tag_differs : (bytes : List ℕ) (place tag : ℕ) → (short_at (order_of bytes) bytes place ≡ tag → ⊥)
    → (slot_at bytes place).tag == tag ≡ false
tag_differs bytes place tag differs = rw (slot_at-tag bytes place) (ne_eqb _ _ differs)

tag_same : (bytes : List ℕ) (place tag : ℕ) → short_at (order_of bytes) bytes place ≡ tag
    → (slot_at bytes place).tag == tag ≡ true
tag_same bytes place tag same = rw (slot_at-tag bytes place) (eq-eqb _ _ same)

-- a directory that lies in the file has its count of entries, and one that doesn't has none
counted : (fits : Bool) (n count : ℕ) → Some n ≡ (if fits then Some count else None) → (fits ≡ true) × (n ≡ count)
counted true n count e = (refl, cc)
counted false n count e = absurd (cc)

none_counted : (fits : Bool) (count : ℕ) → None ≡ (if fits then Some count else None) → fits ≡ false
none_counted true count e = absurd (cc)
none_counted false count e = refl

-- no entry has the tag
pub entry_absent : (bytes : List ℕ) (at tag n i : ℕ)
    → Some n ≡ (if directory_fits bytes at then Some (entry_count bytes at) else None) → n ≤ i
    → ((k : ℕ) → k < i → short_at (order_of bytes) bytes (at + 2 + 12 * k) ≡ tag → ⊥)
    → None ≡ find (λ (slot : Slot). slot.tag == tag) (entries bytes at)
unfolding entries
entry_absent bytes at tag n i e end differs =
    let known = counted (directory_fits bytes at) n (entry_count bytes at) e in
    let inside = known.0 in
    rw inside (sym (find-map-none (λ (slot : Slot). slot.tag == tag) (λ k. slot_at bytes (at + 2 + 12 * k)) 0 _
    (λ k lt. let same : 0 + k ≡ k = omega arith in
    rw same (tag_differs bytes (at + 2 + 12 * k) tag (differs k (omega arith))))))

-- the first entry that has the tag
pub entry_found : (bytes : List ℕ) (at tag n i : ℕ)
    → Some n ≡ (if directory_fits bytes at then Some (entry_count bytes at) else None) → i < n
    → ((k : ℕ) → k < i → short_at (order_of bytes) bytes (at + 2 + 12 * k) ≡ tag → ⊥)
    → short_at (order_of bytes) bytes (at + 2 + 12 * i) ≡ tag
    → Some (slot_at bytes (at + 2 + 12 * i)) ≡ find (λ (slot : Slot). slot.tag == tag) (entries bytes at)
unfolding entries
entry_found bytes at tag n i e within differs same =
    let known = counted (directory_fits bytes at) n (entry_count bytes at) e in
    let inside = known.0 in
    let here : 0 + i ≡ i = omega arith in
    let first = find-map-first (λ (slot : Slot). slot.tag == tag) (λ k. slot_at bytes (at + 2 + 12 * k)) 0
    (entry_count bytes at) i (omega arith)
    (λ k lt. let there : 0 + k ≡ k = omega arith in
    rw there (tag_differs bytes (at + 2 + 12 * k) tag (differs k lt)))
    (rw here (tag_same bytes (at + 2 + 12 * i) tag same)) in
    rw inside (sym (rw here at first))

-- a directory that doesn't lie in the file has no entries
pub entries-outside : (bytes : List ℕ) (at tag : ℕ)
    → None ≡ (if directory_fits bytes at then Some (entry_count bytes at) else None)
    → None ≡ find (λ (slot : Slot). slot.tag == tag) (entries bytes at)
unfolding entries
entries-outside bytes at tag e =
    let outside = none_counted (directory_fits bytes at) (entry_count bytes at) e in
    rw outside refl
