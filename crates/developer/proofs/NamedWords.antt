-- What the clauses of a parse give of `named_words`.
use Rattle.std.proofs.Common.{◌≡◌, ◌∙◌, true, false, List, [], ◌∷◌, Option, None, codes, refl, sym, ap, inl, inr}
use Rattle.clap.specs.Words.{App, Text, first_of, first_value, is_simple, is_simple_and_free, kind_of, matches_of}
use Rattle.clap.specs.Words.{fault_of, rows_of, HasKind, IsAmong, Kinds}
use Rattle.clap.specs.declared.error.Error.{Error}
use Rattle.clap.specs.declared.error.kind.ErrorKind.{ErrorKind}
use Rattle.clap.specs.declared.error.kind.ErrorKind.TheVariants.{OutOfMemory}
use Rattle.clap.specs.declared.parser.matches.Found.{Found}
use Rattle.clap.proofs.WalkLemmas.{first_value-rows}
use Rattle.developer.specs.CommandLine.{has_none, names_by, named_words, rawdev, texts_from, texts_in}

-- the command is a simple one, and one that clap takes as it is
is_ready : is_simple_and_free rawdev ≡ true
is_ready = refl

is_plain : is_simple rawdev ≡ true
is_plain = refl

-- an error is a fault
has_some : (kinds : Kinds) (k : ErrorKind) → IsAmong k kinds → has_none kinds ≡ false
has_some [] k h = absurd h
has_some (x ∷ xs) k h = refl

-- words with a fault, and words without one
refused_by : (a : App) (words : List Text) → has_none (fault_of a words) ≡ false → names_by a words ≡ None
unfolding names_by
refused_by a words h = rw h refl

taken_by : (a : App) (words : List Text) → fault_of a words ≡ [] → names_by a words ≡ texts_in (matches_of a words)
unfolding names_by
taken_by a words h = rw h refl

-- the command of the definition
named : (a : App) (words : List Text) → a ≡ rawdev → names_by a words ≡ named_words words
unfolding named_words
named a words e = ap (λ (x : App). names_by x words) e

-- an error but for memory refuses the words
pub named_words-refused : (a : App) (words : List Text) (e : Error) → a ≡ rawdev
    → (is_simple_and_free a ≡ true → HasKind (fault_of a words) e) → (kind_of e ≡ OutOfMemory → ⊥)
    → None ≡ named_words words
named_words-refused a words e is kinds other = elim (kinds (ap is_simple_and_free is ∙ is_ready)) [
  | inl memory ↦ absurd (other memory)
  | inr among ↦ sym (refused_by a words (has_some (fault_of a words) (kind_of e) among)) ∙ named a words is
]

-- the matches have the names
pub named_words-taken : (a : App) (words : List Text) (f : Found) (Q : Type 0) → a ≡ rawdev
    → (is_simple a ≡ true → (rows_of f ≡ matches_of a words) × Q)
    → (is_simple_and_free a ≡ true → fault_of a words ≡ [])
    → texts_in (rows_of f) ≡ named_words words
named_words-taken a words f Q is matches free =
    ap texts_in (matches (ap is_simple is ∙ is_plain)).0
    ∙ (sym (taken_by a words (free (ap is_simple_and_free is ∙ is_ready))) ∙ named a words is)

-- the texts that `get_str` gives are those of the rows
pub texts_in-found : (f : Found) (frame settings budget cell : Option Text) → frame ≡ first_value f (codes "FRAME")
    → settings ≡ first_value f (codes "settings") → budget ≡ first_value f (codes "budget")
    → cell ≡ first_value f (codes "cell")
    → texts_from frame settings budget cell ≡ texts_in (rows_of f)
texts_in-found f frame settings budget cell e s b c =
    let r = rows_of f in
    ap (λ (o : Option Text). texts_from o settings budget cell) (e ∙ first_value-rows f (codes "FRAME"))
    ∙ (ap (λ (o : Option Text). texts_from (first_of (codes "FRAME") r) o budget cell) (s
    ∙ first_value-rows f (codes "settings"))
    ∙ (ap (λ (o : Option Text). texts_from (first_of (codes "FRAME") r) (first_of (codes "settings") r) o cell) (b
    ∙ first_value-rows f (codes "budget"))
    ∙ ap (λ (o : Option Text). texts_from (first_of (codes "FRAME") r) (first_of (codes "settings") r)
    (first_of (codes "budget") r) o) (c ∙ first_value-rows f (codes "cell"))))

-- without a frame there is nothing
pub texts_in-none : (f : Found) → None ≡ first_value f (codes "FRAME") → None ≡ texts_in (rows_of f)
texts_in-none f e =
    let r = rows_of f in
    ap (λ (o : Option Text). texts_from o (first_of (codes "settings") r) (first_of (codes "budget") r)
    (first_of (codes "cell") r))
    (e ∙ first_value-rows f (codes "FRAME"))
