-- Differences that are taken one after the other, by tables that take turns.
use Rattle.std.proofs.Common.{◌≡◌, ℕ, suc, ◌+◌, ◌%◌, ◌<◌, ◌≤◌, ◌↔◌, Bool, List, [], ◌∷◌, ◌++◌, length, map, take, set}
use Rattle.std.proofs.Common.{get_or, Result, Err, sym, ap, ap₂, ◌∙◌, subst, arith, append_assoc, add-one, mod-eq_of_lt}
use Rattle.std.proofs.Common.{ℤ}
use Rattle.std.proofs.Math.Nat.{suc-mod, mod_self}
use Rattle.std.proofs.Math.Seq.{take-suc-set}
use Rattle.std.proofs.lemmas.List.{get_or-map, length-map, length-take, map-append}
use Rattle.ljpeg_huffman.specs.Words.{Table}
use Rattle.ljpeg_huffman.specs.Differences.{EndsWithin, HasNoCode, IsRefused, SpellsOne, StopsShort, Takes, by_turns}
use Rattle.ljpeg_huffman.specs.Differences.{modulo}
use Rattle.ljpeg_huffman.specs.declared.bits.BitFault.{BitFault}
use Rattle.ljpeg_huffman.specs.declared.bits.BitFault.TheVariants.{Ended, NoCode}
use Rattle.ljpeg_huffman.proofs.SpellLemmas.{Spells-push}

-- the table whose turn it is
pub turn_table : {X : Type 0} (f : X → Table) (tables : List X) (place turn : ℕ) (table : X)
    → turn ≡ place % length tables → turn < length tables → table ≡ get_or tables turn table
    → by_turns (map f tables) place ≡ f table
turn_table f tables place turn table e h is =
    let size : length (map f tables) ≡ length tables = simp length-map in
    let at : place % length (map f tables) ≡ turn = ap (λ n. place % n) size ∙ sym e in
    ap (λ k. get_or (map f tables) k []) at ∙ get_or-map f tables turn table [] h ∙ ap f (sym is)

pub turn_goes_on : (place turn n : ℕ) → turn ≡ place % n → turn + 1 < n → turn + 1 ≡ (place + 1) % n
turn_goes_on place turn n e h =
    let next : suc (place % n) < n = omega arith in
    let step : suc place % n ≡ suc (place % n) = suc-mod place n ∙ mod-eq_of_lt next in
    ap (λ k. k + 1) e ∙ add-one (place % n) ∙ sym step ∙ ap (λ k. k % n) (sym (add-one place))

pub turn_begins : (place turn n : ℕ) → turn ≡ place % n → turn < n → n ≤ turn + 1 → 0 ≡ (place + 1) % n
turn_begins place turn n e h k =
    let whole : suc (place % n) ≡ n = omega arith in
    sym (ap (λ k. k % n) (add-one place) ∙ suc-mod place n ∙ ap (λ k. k % n) whole ∙ mod_self n)

-- how many differences were taken
taken_count : (tables : ℕ → Table) (bits rest : List Bool) (line : List ℕ) (place : ℕ) → place < length line
    → (t : Takes tables bits (take place line) rest) → length t.values ≡ place
taken_count tables bits rest line place h t =
    let sizes : length (take place line) ≡ length t.values = ap length t.each ∙ simp length-map in
    omega (arith, sizes, length-take place line)

-- one more difference was taken
pub takes_more : (tables : ℕ → Table) (bits middle more rest : List Bool) (line : List ℕ) (place number : ℕ) (value : ℤ)
    → place < length line → Takes tables bits (take place line) middle → middle ≡ more ++ rest
    → SpellsOne (tables place) more value → number ≡ modulo value
    → Takes tables bits (take (place + 1) (set line place number)) rest
takes_more tables bits middle more rest line place number value h t parts one is =
    let count = taken_count tables bits middle line place h t in
    record {
      values = t.values ++ value ∷ [];
      taken = t.taken ++ more;
      parts = t.parts ∙ ap (λ x. t.taken ++ x) parts ∙ sym (append_assoc t.taken more rest);
      spelled = Spells-push t.values tables t.taken more value t.spelled
          (subst (λ k. SpellsOne (tables k) more value) (sym count) one);
      each = ap (λ k. take k (set line place number)) (add-one place) ∙ take-suc-set line place number h
          ∙ ap₂ (λ x y. x ++ y ∷ []) t.each is ∙ sym (map-append modulo t.values (value ∷ []));
    }

pub refused_by : (table : Table) (bits : List Bool) (answer : Result ℤ BitFault) (f : BitFault) → answer ≡ Err f
    → ((answer ≡ Err Ended) ↔ EndsWithin table bits) → ((answer ≡ Err NoCode) ↔ HasNoCode table bits)
    → IsRefused table bits f
refused_by table bits answer Ended is ended none = ended.0 is
refused_by table bits answer NoCode is ended none = none.0 is

-- no further difference can be taken
pub stops : (tables : ℕ → Table) (bits middle : List Bool) (line : List ℕ) (place size : ℕ) (f : BitFault)
    → place < length line → length line ≡ size → Takes tables bits (take place line) middle
    → IsRefused (tables place) middle f → StopsShort tables bits size f
stops tables bits middle line place size f h long t refused =
    let count = taken_count tables bits middle line place h t in
    record {
      values = t.values;
      taken = t.taken;
      rest = middle;
      parts = t.parts;
      spelled = t.spelled;
      few = omega arith;
      refused = subst (λ k. IsRefused (tables k) middle f) (sym count) refused;
    }
