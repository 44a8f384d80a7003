-- A table's members stand in the byte order of their keys, so the first unknown one is the least.
use Rattle.std.proofs.Common.{ℕ, ◌≡◌, ◌∙◌, Bool, true, false, cond, List, [], ◌∷◌, Option, Some, Ordering, Less, Equal}
use Rattle.std.proofs.Common.{Greater, String, Global, string_bytes, nat_cmp, is_some, refl, sym, ap}
use Rattle.std.specs.Ordering.{is_gt, match_ordering}
use Rattle.std.specs.Cmp.{tied_itself}
use Rattle.std.specs.Cmp.Lexicographic.{slice_cmp}
use Rattle.std.specs.List.{AllByRecursion}
use Rattle.std.specs.List.Sorted.{IsStrictlySortedBy}
use Rattle.std.specs.Map.{keys_of}
use Rattle.std.specs.String.{string_cmp}
use Rattle.std.proofs.lemmas.Cmp.{nat_list_cmp_total}
use Rattle.std.proofs.lemmas.Map.Lookups.{exact_bytes}
use Rattle.std.proofs.lemmas.Bool.{false≢true}
use Rattle.toml.specs.Data.{Data, get_member}
use Rattle.toml.specs.View.{members_view, view}
use Rattle.toml.proofs.Views.{Entry}
use Rattle.dev_settings.specs.File.{IsLeastUnknown, first_unknown, is_known}

-- a text, by the numbers of its bytes
abbrev Text : Type 0
Text = List ℕ

abbrev byte_order : Text → Text → Ordering
byte_order = slice_cmp nat_cmp

-- a key that is found is the first one or is found after it
first_or_later : (l n : Text) (d : Data) (rest : Option Data) (P : Type 0)
    → is_some (match_ordering (byte_order l n) rest (Some d) rest) ≡ true
    → (l ≡ n → P) → (is_some rest ≡ true → P) → P
first_or_later l n d rest P h here later = go (byte_order l n) refl h
  where
    go : (o : Ordering) → byte_order l n ≡ o → is_some (match_ordering o rest (Some d) rest) ≡ true → P
    go Less e g = later g
    go Equal e g = here (exact_bytes l n e)
    go Greater e g = later g

-- what is found after a key is above it
above : (x : String Global) (es : List Entry) (l : Text) → AllByRecursion (λ y. string_cmp x y ≡ Less) (keys_of es)
    → is_some (get_member l (members_view es)) ≡ true → byte_order (string_bytes x) l ≡ Less
above x [] l h some = absurd (false≢true some)
above x (e ∷ es) l h some = first_or_later l (string_bytes e.0) (view e.1) (get_member l (members_view es))
    (byte_order (string_bytes x) l ≡ Less) some
    (λ same. rw same h.0) (above x es l h.1)

still_there : (l n : Text) (d : Data) (rest : Option Data) → is_some rest ≡ true
    → is_some (match_ordering (byte_order l n) rest (Some d) rest) ≡ true
still_there l n d rest h = go (byte_order l n)
  where
    go : (o : Ordering) → is_some (match_ordering o rest (Some d) rest) ≡ true
    go Less = h
    go Equal = refl
    go Greater = h

pub IsLeastUnknown-first : (es : List Entry) (k : Text) → IsStrictlySortedBy string_cmp (keys_of es)
    → Some k ≡ first_unknown (members_view es) → IsLeastUnknown (members_view es) k
unfolding IsStrictlySortedBy
IsLeastUnknown-first [] k sorted first = cc
IsLeastUnknown-first (e ∷ es) k sorted first = go (IsLeastUnknown-first es k sorted.1) (is_known (string_bytes e.0))
    refl first
  where
    go : (Some k ≡ first_unknown (members_view es) → IsLeastUnknown (members_view es) k) → (b : Bool)
        → is_known (string_bytes e.0) ≡ b → Some k ≡ cond b (first_unknown (members_view es)) (Some (string_bytes e.0))
        → IsLeastUnknown (members_view (e ∷ es)) k
    go ih true known f =
        let on = ih f in
        record {
          unknown = on.unknown;
          there = still_there k (string_bytes e.0) (view e.1) (get_member k (members_view es)) on.there;
          least = λ l fresh some. first_or_later l (string_bytes e.0) (view e.1) (get_member l (members_view es))
              (is_gt (byte_order k l) ≡ false) some
              (λ same. absurd (false≢true (sym fresh ∙ (ap is_known same ∙ known)))) (on.least l fresh);
        }
    go ih false known f =
        let same : k ≡ string_bytes e.0 = cc in
        let tied = tied_itself nat_list_cmp_total (string_bytes e.0) in
        record {
          unknown = ap is_known same ∙ known;
          there = rw (same, tied) refl;
          least = λ l fresh some. first_or_later l (string_bytes e.0) (view e.1) (get_member l (members_view es))
              (is_gt (byte_order k l) ≡ false) some
              (λ eq. rw (same, eq, tied) refl)
              (λ later. let up = above e.0 es l sorted.0 later in rw (same, up) refl);
        }
