-- Several calls one after another: counts that rise, bytes that are taken, contents that are read, and bytes that are
-- appended.
use Rattle.std.proofs.Common.{◌≡◌, ℕ, ◌+◌, ◌-◌, ◌<◌, ◌≤◌, List, [], ◌++◌, length, take, drop, Option, Some, None}
use Rattle.std.proofs.Common.{sym, ◌∙◌, ap, subst, inl, inr, append_assoc, append-nil, length-take, take-append-drop}
use Rattle.std.proofs.Common.{min, arith}
use Rattle.std.specs.Io.KnownBytes.{Consumes, IsAtEnd}
use Rattle.std.specs.Option.{IfSome}
use Rattle.std.proofs.KnownBytes.{Consumes-trans}
use Rattle.std.proofs.Math.Seq.{take-add}
use Rattle.std.proofs.lemmas.List.{drop-drop, take_all, take_at}
use Rattle.raw_io.specs.Outside.{Rises, ReadsAt, Appends}

-- a count that rose last has risen from before
pub rises_last : (before mid now : ℕ) → before ≤ mid → Rises mid now → Rises before now
rises_last before mid now h (inl r) = inl (omega arith)
rises_last before mid now h (inr r) = inr r

-- the same bytes, named otherwise
pub consumes_same : (a b : Option (List ℕ)) (xs ys : List ℕ) → xs ≡ ys → Consumes a b xs → Consumes a b ys
consumes_same a b xs ys same taken = subst (Consumes a b) same taken

-- these were taken, and then nothing
pub consumes_still : (a b c : Option (List ℕ)) (xs : List ℕ) → Consumes a b xs → Consumes b c [] → Consumes a c xs
consumes_still a b c xs first then =
    consumes_same a c (xs ++ []) xs (append-nil xs) (Consumes-trans a b c xs [] first then)

-- nothing was left to take
pub consumes_all : (a b c : Option (List ℕ)) (xs : List ℕ) → Consumes a b xs → Consumes b c []
    → IsAtEnd b → IfSome a (λ _. c ≡ Some [])
consumes_all None b c xs first then ends = tt
consumes_all (Some l) None c xs first then ends = absurd first
consumes_all (Some l) (Some m) None xs first then ends = absurd then
consumes_all (Some l) (Some m) (Some n) xs first then ends =
    ap (λ (t : List ℕ). Some t) (sym then ∙ ends)

-- a read changes no contents, so what it says of them holds of those before an earlier one
pub reads_told : (now told : Option (List ℕ)) (buffer : List ℕ) (from at n : ℕ) → now ≡ told → from ≡ at
    → IfSome now (λ l. ReadsAt l from buffer n) → IfSome told (λ l. ReadsAt l at buffer n)
reads_told now told buffer from at n same place read =
    let P : Option (List ℕ) → Type 0 = λ o. IfSome o (λ l. ReadsAt l at buffer n) in
    let Q : ℕ → Type 0 = λ k. IfSome now (λ l. ReadsAt l k buffer n) in
    subst P same (subst Q place read)

pub prefix_none : (told : Option (List ℕ)) (whole : List ℕ) (at : ℕ) → at ≡ 0 → whole ≡ []
    → IfSome told (λ l. whole ≡ take at l)
prefix_none None whole at zero none = tt
prefix_none (Some l) whole at zero none = none ∙ ap (λ (n : ℕ). take n l) (sym zero)

-- a prefix of the contents, and the bytes that a read put behind it
pub prefix_more : (told : Option (List ℕ)) (whole more buffer : List ℕ) (at next n : ℕ) → more ≡ whole ++ take n buffer
    → next ≡ at + n → IfSome told (λ l. whole ≡ take at l) → IfSome told (λ l. ReadsAt l at buffer n)
    → IfSome told (λ l. more ≡ take next l)
prefix_more None whole more buffer at next n pushed ends prefix read = tt
prefix_more (Some l) whole more buffer at next n pushed ends prefix read =
    pushed ∙ ap (λ (t : List ℕ). t ++ take n buffer) prefix ∙ ap (λ (t : List ℕ). take at l ++ t) read.bytes
    ∙ sym (take-add at n l) ∙ ap (λ (k : ℕ). take k l) (sym ends)

-- at the end of the contents the prefix is all of them
pub prefix_all : (told : Option (List ℕ)) (whole buffer : List ℕ) (at n : ℕ) → 0 < length buffer → n ≡ 0
    → IfSome told (λ l. whole ≡ take at l) → IfSome told (λ l. ReadsAt l at buffer n) → IfSome told (λ l. whole ≡ l)
prefix_all None whole buffer at n some ends prefix read = tt
prefix_all (Some l) whole buffer at n some ends prefix read =
    prefix ∙ take_all at l (elim (read.end ends) [ inl none ↦ absurd (omega arith) | inr past ↦ past ])

-- a read past the room
pub reads_past : (told : Option (List ℕ)) (buffer : List ℕ) (limit at n : ℕ) → at ≤ limit → limit - at < n
    → IfSome told (λ l. ReadsAt l at buffer n) → IfSome told (λ l. limit < length l)
reads_past None buffer limit at n within past read = tt
reads_past (Some l) buffer limit at n within past read = let h : n ≤ length l - at = read.within in omega arith

-- nothing was appended
pub appends_nothing : {S : Type 0} (stands_for : S → List ℕ → Type 0) (sink : S) → Appends stands_for sink sink []
appends_nothing stands_for sink list was = subst (stands_for sink) (sym (append-nil list)) was

-- these bytes were appended, and then those
pub appends_then : {S : Type 0} (stands_for : S → List ℕ → Type 0) (old mid new : S) (first second : List ℕ)
    → Appends stands_for old mid first → Appends stands_for mid new second
    → Appends stands_for old new (first ++ second)
appends_then stands_for old mid new first second before then list was =
    subst (stands_for new) (append_assoc list first second) (then (list ++ first) (before list was))

-- the first bytes, and then the next
pub appends_more : {S : Type 0} (stands_for : S → List ℕ → Type 0) (a b c : S) (bytes rest : List ℕ) (m n : ℕ)
    → rest ≡ drop m bytes → Appends stands_for a b (take m bytes) → Appends stands_for b c (take n rest)
    → Appends stands_for a c (take (m + n) bytes)
appends_more stands_for a b c bytes rest m n is first then =
    subst (Appends stands_for a c)
    (ap (λ (t : List ℕ). take m bytes ++ take n t) is ∙ sym (take-add m n bytes))
    (appends_then stands_for a b c (take m bytes) (take n rest) first then)

-- the bytes that were copied are a prefix of what a source in memory has left
pub copied_prefix : (bytes left from into old : List ℕ) (taken count : ℕ) → left ≡ drop taken bytes
    → from ≡ drop taken bytes → count ≡ min (length from) (length old) → into ≡ take count from ++ drop count old
    → left ≡ take count into ++ drop (taken + count) bytes
copied_prefix bytes left from into old taken count is same counts copied =
    let n : length (take count from) ≡ count = omega (arith, length-take count from) in
    let prefix : take count into ≡ take count from =
    ap (λ (t : List ℕ). take count t) copied ∙ take_at (take count from) (drop count old) count n in
    is ∙ sym same ∙ sym (take-append-drop count from)
    ∙ ap (λ (t : List ℕ). take count from ++ t) (ap (λ (t : List ℕ). drop count t) same ∙ drop-drop count taken bytes)
    ∙ ap (λ (t : List ℕ). t ++ drop (taken + count) bytes) (sym prefix)
