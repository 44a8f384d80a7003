-- Lists of differences that prefixes of the same bits spell.
use Rattle.std.proofs.Common.{◌≡◌, ℕ, suc, ◌+◌, ◌≤◌, Bool, ℤ, List, [], ◌∷◌, ◌++◌, length, sym, ap, ◌∙◌, subst, arith}
use Rattle.std.proofs.Common.{append_assoc, suc-add, zero-add}
use Rattle.ljpeg_huffman.specs.Words.{Table, IsPrefixFree}
use Rattle.ljpeg_huffman.specs.Differences.{IsRefused, Spells, SpellsOne}
use Rattle.ljpeg_huffman.specs.declared.bits.BitFault.{BitFault}
use Rattle.ljpeg_huffman.specs.declared.bits.BitFault.TheVariants.{Ended, NoCode}
use Rattle.ljpeg_huffman.proofs.DecodeLemmas.{not_ended, not_no_code}
use Rattle.ljpeg_huffman.proofs.SpellLemmas.{one_difference}

-- bits that spell a difference aren't refused
not_refused : (table : Table) → IsPrefixFree table → (bits taken after : List Bool) (value : ℤ) (f : BitFault)
    → bits ≡ taken ++ after → SpellsOne table taken value → IsRefused table bits f → ⊥
not_refused table free bits taken after value Ended e one refused =
    not_ended table free bits taken after value e one refused
not_refused table free bits taken after value NoCode e one refused =
    not_no_code table bits taken after value e one refused

-- where no further difference can be taken, no longer list is spelled
pub longest : (values others : List ℤ) (tables : ℕ → Table) → ((place : ℕ) → IsPrefixFree (tables place))
    → (taken rest more behind : List Bool) (f : BitFault) → Spells tables taken values
    → IsRefused (tables (length values)) rest f → Spells tables more others → taken ++ rest ≡ more ++ behind
    → length others ≤ length values
longest values [] tables free taken rest more behind f s refused t e = omega arith
longest [] (v ∷ others) tables free taken rest more behind f s refused t e =
    let prefix : rest ≡ t.0 ++ (t.1 ++ behind) = sym (ap (λ x. x ++ rest) s) ∙ e ∙ ap (λ x. x ++ behind) t.2
    ∙ append_assoc t.0 t.1 behind in
    absurd (not_refused (tables 0) (free 0) rest t.0 (t.1 ++ behind) v f prefix t.3 refused)
longest (u ∷ values) (v ∷ others) tables free taken rest more behind f s refused t e =
    let prefix : taken ++ rest ≡ s.0 ++ (s.1 ++ rest) = ap (λ x. x ++ rest) s.2 ∙ append_assoc s.0 s.1 rest in
    let other : more ++ behind ≡ t.0 ++ (t.1 ++ behind) = ap (λ x. x ++ behind) t.2 ∙ append_assoc t.0 t.1 behind in
    let first = one_difference (tables 0) (free 0) s.0 t.0 (s.1 ++ rest) (t.1 ++ behind) u v s.3 t.3
    (sym prefix ∙ e ∙ other) in
    let later : length others ≤ length values =
    longest values others (λ place. tables (suc place))
    (λ place. free (suc place)) s.1 rest t.1 behind f s.4 refused t.4 first.2 in
    omega arith

-- differences behind differences
pub Spells-append : (xs ys : List ℤ) (tables : ℕ → Table) (a b : List Bool) → Spells tables a xs
    → Spells (λ place. tables (length xs + place)) b ys → Spells tables (a ++ b) (xs ++ ys)
Spells-append [] ys tables a b s t =
    let same : (λ (place : ℕ). tables (0 + place)) ≡ tables = λ i. λ place. tables (zero-add place i) in
    subst (λ bits. Spells tables bits ys) (sym (ap (λ x. x ++ b) s)) (subst (λ ts. Spells ts b ys) same t)
Spells-append (x ∷ xs) ys tables a b s t =
    let same : (λ (place : ℕ). tables (suc (length xs) + place)) ≡ (λ (place : ℕ). tables (suc (length xs + place))) =
    λ i. λ place. tables (suc-add (length xs) place i) in
    let rest = Spells-append xs ys (λ place. tables (suc place)) s.1 b s.4 (subst (λ ts. Spells ts b ys) same t) in
    (s.0, s.1 ++ b, ap (λ y. y ++ b) s.2 ∙ append_assoc s.0 s.1 b, s.3, rest)
