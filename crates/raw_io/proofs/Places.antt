-- A list of files with names: the place of a name, the file there, and a file put in its place.
use Rattle.std.proofs.Common.{◌≡◌, ℕ, suc, ◌+◌, ◌-◌, ◌^◌, ◌<◌, ◌≤◌, min, take, Bool, true, false, cond, not, ◌||◌}
use Rattle.std.proofs.Common.{List, [], ◌∷◌, ◌++◌, length, get_or, set, drop, Option, Some, None, refl, sym, ◌∙◌, ap}
use Rattle.std.proofs.Common.{subst, inl, inr, arith}
use Rattle.std.specs.Option.{option_map, option_map_or, is_none, IfSome}
use Rattle.std.specs.List.{slice_get}
use Rattle.std.specs.Str.{bytes_eq}
use Rattle.std.proofs.lemmas.Slice.Eq.{bytes_eq-Decides}
use Rattle.std.proofs.lemmas.Bool.{cond-true, cond-false, false≢true, cases_lt}
use Rattle.std.proofs.Math.Bool.{or-true}
use Rattle.std.proofs.Math.Nat.{le_refl}
use Rattle.std.proofs.lemmas.List.{take_at, length-take, length-drop, length-append}
use Rattle.std.proofs.lemmas.List.Folds.{find_at}
use Rattle.std.proofs.lemmas.List.Sums.{passes_at_first}
use Rattle.std.proofs.lemmas.Option.{slice_get_past, slice_get_read, slice_get_within, get_or_from_slice_get}
use Rattle.raw_io.specs.Outside.{Rises, ReadsAt}
use Rattle.raw_io.specs.Memory.{CallNumbers, called, next_fails, one_more, MemoryFile, MemoryFiles, is_named, file_of}
use Rattle.raw_io.specs.Memory.{with_file, contents_of, faults_of, with_contents, with_fault, files_failed}
use Rattle.raw_io.specs.inner.Places.{place_of}

pub set_place : (new : MemoryFile) (files : List MemoryFile) → place_of new.name files < length files
    → set files (place_of new.name files) new ≡ with_file new files
set_place new [] within = absurd (omega arith)
set_place new (file ∷ files) within =
    at_head (bytes_eq file.name new.name) (place_of new.name files) (with_file new files) within
    (λ h. set_place new files h)
  where
    at_head : (b : Bool) (p : ℕ) (done : List MemoryFile) → cond (not b) (1 + p) 0 < suc (length files)
        → (p < length files → set files p new ≡ done)
        → set (file ∷ files) (cond (not b) (1 + p) 0) new ≡ cond b (new ∷ files) (file ∷ done)
    at_head true p done h rest = refl
    at_head false p done h rest =
        let onward : 1 + p ≡ suc p = omega arith in
        ap (λ (n : ℕ). set (file ∷ files) n new) onward
        ∙ ap (λ (fs : List MemoryFile). file ∷ fs) (rest (omega arith))

pub push_place : (new : MemoryFile) (files : List MemoryFile) → length files ≤ place_of new.name files
    → files ++ new ∷ [] ≡ with_file new files
push_place new [] past = refl
push_place new (file ∷ files) past =
    at_head (bytes_eq file.name new.name) (place_of new.name files) (with_file new files) past
    (λ h. push_place new files h)
  where
    at_head : (b : Bool) (p : ℕ) (done : List MemoryFile) → suc (length files) ≤ cond (not b) (1 + p) 0
        → (length files ≤ p → files ++ new ∷ [] ≡ done) → file ∷ files ++ new ∷ [] ≡ cond b (new ∷ files) (file ∷ done)
    at_head true p done h rest = absurd (omega arith)
    at_head false p done h rest = ap (λ (fs : List MemoryFile). file ∷ fs) (rest (omega arith))

-- the file that is found has the name
pub named : (name : List ℕ) (files : List MemoryFile) (f : MemoryFile) → file_of name files ≡ Some f → f.name ≡ name
named name files f found =
    let place = place_of name files in
    let there : slice_get files place ≡ Some f = sym (find_at (is_named name) files) ∙ found in
    let is : get_or files place f ≡ f = get_or_from_slice_get files place f f there in
    let within : place < length files = slice_get_within files place f there in
    (bytes_eq-Decides f.name name).0 (ap (is_named name) (sym is) ∙ passes_at_first (is_named name) files f within)

-- what a look-up finds once a file was put in its place
pub file_of-with_file : (other : List ℕ) (new : MemoryFile) (files : List MemoryFile)
    → file_of other (with_file new files) ≡ cond (bytes_eq new.name other) (Some new) (file_of other files)
file_of-with_file other new [] = refl
file_of-with_file other new (file ∷ files) =
    at_head (file_of-with_file other new files) (bytes_eq file.name new.name) refl
  where
    -- the first file has that name, so it has the other one if and only if the new file has
    same : bytes_eq file.name new.name ≡ true → (b : Bool) → bytes_eq new.name other ≡ b
        → cond (bytes_eq new.name other) (Some new) (file_of other files)
        ≡ cond (bytes_eq new.name other) (Some new) (cond (bytes_eq file.name other) (Some file) (file_of other files))
    same e true h = cond-true _ _ _ h ∙ sym (cond-true _ _ _ h)
    same e false h =
        let names : file.name ≡ new.name = (bytes_eq-Decides file.name new.name).0 e in
        let apart : bytes_eq file.name other ≡ false = ap (λ (n : List ℕ). bytes_eq n other) names ∙ h in
        ap (λ (x : Option MemoryFile). cond (bytes_eq new.name other) (Some new) x) (sym (cond-false _ _ _ apart))

    -- the first file has another name, so at most one of the two has that of the look-up
    swap : (b c : Bool) (x y z : Option MemoryFile) → (b ≡ true → c ≡ true → ⊥)
        → cond b x (cond c y z) ≡ cond c y (cond b x z)
    swap true true x y z apart = absurd (apart refl refl)
    swap true false x y z apart = refl
    swap false true x y z apart = refl
    swap false false x y z apart = refl

    differ : bytes_eq file.name new.name ≡ false → bytes_eq file.name other ≡ true → bytes_eq new.name other ≡ true → ⊥
    differ e h k =
        let same_name : file.name ≡ new.name =
        (bytes_eq-Decides file.name other).0 h ∙ sym ((bytes_eq-Decides new.name other).0 k) in
        false≢true (sym e ∙ (bytes_eq-Decides file.name new.name).1 same_name)

    at_head : file_of other (with_file new files) ≡ cond (bytes_eq new.name other) (Some new) (file_of other files)
        → (b : Bool) → bytes_eq file.name new.name ≡ b
        → file_of other (cond b (new ∷ files) (file ∷ with_file new files))
        ≡ cond (bytes_eq new.name other) (Some new) (cond (bytes_eq file.name other) (Some file) (file_of other files))
    at_head rest true e = same e (bytes_eq new.name other) refl
    at_head rest false e =
        ap (λ (x : Option MemoryFile). cond (bytes_eq file.name other) (Some file) x) rest
        ∙ swap (bytes_eq file.name other) (bytes_eq new.name other) (Some file) (Some new) (file_of other files)
        (differ e)

-- a file put in the place of one of its name and contents changes no contents
contents_stay : (new file : MemoryFile) (files : List MemoryFile) (other : List ℕ) → file_of new.name files ≡ Some file
    → new.bytes ≡ file.bytes
    → option_map (λ (f : MemoryFile). f.bytes) (file_of other (with_file new files))
    ≡ option_map (λ (f : MemoryFile). f.bytes) (file_of other files)
contents_stay new file files other found bytes =
    ap (λ (o : Option MemoryFile). option_map (λ (f : MemoryFile). f.bytes) o) (file_of-with_file other new files)
    ∙ at_name (bytes_eq new.name other) refl
  where
    at_name : (b : Bool) → bytes_eq new.name other ≡ b
        → option_map (λ (f : MemoryFile). f.bytes) (cond b (Some new) (file_of other files))
        ≡ option_map (λ (f : MemoryFile). f.bytes) (file_of other files)
    at_name true e =
        let name : new.name ≡ other = (bytes_eq-Decides new.name other).0 e in
        let here : file_of other files ≡ Some file = ap (λ (n : List ℕ). file_of n files) (sym name) ∙ found in
        ap (λ (x : List ℕ). Some x) bytes
        ∙ ap (λ (o : Option MemoryFile). option_map (λ (f : MemoryFile). f.bytes) o) (sym here)
    at_name false e = refl

pub failed_contents : (name : List ℕ) (all : MemoryFiles) (other : List ℕ)
    → contents_of (files_failed name all) other ≡ contents_of all other
failed_contents name all other = at_file (file_of name all.files) refl
  where
    at_file : (o : Option MemoryFile) → file_of name all.files ≡ o
        → contents_of (with_fault o all) other ≡ contents_of all other
    at_file None e = refl
    at_file (Some file) e =
        let here : file_of file.name all.files ≡ Some file =
        ap (λ (n : List ℕ). file_of n all.files) (named name all.files file e) ∙ e in
        contents_stay (record { name = file.name; bytes = file.bytes; faults = one_more file.faults })
        file all.files other here refl

pub rises_one : (n : ℕ) → Rises n (one_more n)
rises_one n = elim (cases_lt n (2 ^ 64 - 1)) [ inl below ↦ inl (omega arith) | inr past ↦ inr (omega arith) ]

-- the file of a name, once one of that name was put in its place
file_put : (new : MemoryFile) (files : List MemoryFile) (name : List ℕ) → new.name ≡ name
    → file_of name (with_file new files) ≡ Some new
file_put new files name same =
    file_of-with_file name new files ∙ cond-true _ _ _ ((bytes_eq-Decides new.name name).1 same)

abbrev faults_in : Option MemoryFile → ℕ → ℕ
faults_in o others = option_map_or (λ (f : MemoryFile). f.faults) o others

abbrev pub faulty : MemoryFile → MemoryFile
faulty file = record { name = file.name; bytes = file.bytes; faults = one_more file.faults }

-- the count of the name itself rises
pub failed_rises : (name : List ℕ) (all : MemoryFiles)
    → Rises (faults_of all name) (faults_of (files_failed name all) name)
failed_rises name all = at_file (file_of name all.files) refl
  where
    at_file : (o : Option MemoryFile) → file_of name all.files ≡ o
        → Rises (faults_of all name) (faults_of (with_fault o all) name)
    at_file None e =
        let P : Option MemoryFile → Type 0 = λ o. Rises (faults_in o all.others) (faults_in o (one_more all.others)) in
        subst P (sym e) (rises_one all.others)
    at_file (Some file) e =
        let P : Option MemoryFile → Type 0 =
        λ o. Rises (faults_in o all.others)
        (faults_in (file_of name (with_file (faulty file) all.files)) all.others) in
        let Q : Option MemoryFile → Type 0 = λ o. Rises file.faults (faults_in o all.others) in
        subst P (sym e) (subst Q (sym (file_put (faulty file) all.files name (named name all.files file e)))
        (rises_one file.faults))

-- no count falls
pub failed_grows : (name : List ℕ) (all : MemoryFiles) (other : List ℕ)
    → (file_of name all.files ≡ None → all.others ≤ one_more all.others)
    → ((file : MemoryFile) → file_of name all.files ≡ Some file → file.faults ≤ one_more file.faults)
    → faults_of all other ≤ faults_of (files_failed name all) other
failed_grows name all other others_grow file_grows = at_file (file_of name all.files) refl
  where
    at_none : file_of name all.files ≡ None → (o : Option MemoryFile)
        → faults_in o all.others ≤ faults_in o (one_more all.others)
    at_none e None = others_grow e
    at_none e (Some file) = le_refl file.faults

    at_name : (file : MemoryFile) → file_of name all.files ≡ Some file → (b : Bool) → bytes_eq file.name other ≡ b
        → faults_in (file_of other all.files) all.others
        ≤ faults_in (cond b (Some (faulty file)) (file_of other all.files)) all.others
    at_name file e true h =
        let name_is : name ≡ other = sym (named name all.files file e) ∙ (bytes_eq-Decides file.name other).0 h in
        let P : Option MemoryFile → Type 0 = λ o. faults_in o all.others ≤ one_more file.faults in
        subst P (sym (ap (λ (n : List ℕ). file_of n all.files) (sym name_is) ∙ e)) (file_grows file e)
    at_name file e false h = le_refl (faults_in (file_of other all.files) all.others)

    at_file : (o : Option MemoryFile) → file_of name all.files ≡ o
        → faults_of all other ≤ faults_of (with_fault o all) other
    at_file None e = at_none e (file_of other all.files)
    at_file (Some file) e =
        let P : Option MemoryFile → Type 0 = λ o. faults_of all other ≤ faults_in o all.others in
        subst P (sym (file_of-with_file other (faulty file) all.files)) (at_name file e (bytes_eq file.name other) refl)

-- what the code knows: the file at the place, and that there is none
pub there : (name : List ℕ) (files : List MemoryFile) (place : ℕ) (file : MemoryFile) → place ≡ place_of name files
    → place < length files → file ≡ get_or files place file → file_of name files ≡ Some file
there name files place file at within is =
    find_at (is_named name) files ∙ ap (λ (k : ℕ). slice_get files k) (sym at)
    ∙ slice_get_read files (length files) place file refl within is

pub absent : (name : List ℕ) (files : List MemoryFile) (place : ℕ) → place ≡ place_of name files → length files ≤ place
    → file_of name files ≡ None
absent name files place at past =
    find_at (is_named name) files ∙ ap (λ (k : ℕ). slice_get files k) (sym at) ∙ slice_get_past files place past

pub set_there : (name : List ℕ) (files : List MemoryFile) (place : ℕ) (new : MemoryFile) → place ≡ place_of name files
    → place < length files → new.name ≡ name → set files place new ≡ with_file new files
set_there name files place new at within same =
    let at_new : place ≡ place_of new.name files = at ∙ ap (λ (n : List ℕ). place_of n files) (sym same) in
    ap (λ (k : ℕ). set files k new) at_new ∙ set_place new files (omega (arith, at_new))

pub push_there : (name : List ℕ) (files : List MemoryFile) (place : ℕ) (new : MemoryFile) → place ≡ place_of name files
    → length files ≤ place → new.name ≡ name → files ++ new ∷ [] ≡ with_file new files
push_there name files place new at past same =
    let at_new : place ≡ place_of new.name files = at ∙ ap (λ (n : List ℕ). place_of n files) (sym same) in
    push_place new files (omega (arith, at_new))

pub failed_absent : (name : List ℕ) (all new : MemoryFiles) → file_of name all.files ≡ None → new ≡ with_fault None all
    → new ≡ files_failed name all
failed_absent name all new e is = is ∙ ap (λ (o : Option MemoryFile). with_fault o all) (sym e)

pub failed_there : (name : List ℕ) (all new : MemoryFiles) (file : MemoryFile) → file_of name all.files ≡ Some file
    → new ≡ with_fault (Some file) all → new ≡ files_failed name all
failed_there name all new file e is = is ∙ ap (λ (o : Option MemoryFile). with_fault o all) (sym e)

pub fails_absent : (name : List ℕ) (all : MemoryFiles) → file_of name all.files ≡ None
    → true ≡ next_fails all.calls || is_none (contents_of all name)
fails_absent name all e =
    let P : Option MemoryFile → Type 0 =
    λ o. true ≡ next_fails all.calls || is_none (option_map (λ (f : MemoryFile). f.bytes) o) in
    subst P (sym e) (sym (or-true (next_fails all.calls)))

pub goes_well : (name : List ℕ) (all : MemoryFiles) (file : MemoryFile) → file_of name all.files ≡ Some file
    → false ≡ next_fails all.calls → false ≡ next_fails all.calls || is_none (contents_of all name)
goes_well name all file e next =
    let P : Option MemoryFile → Type 0 =
    λ o. false ≡ next_fails all.calls || is_none (option_map (λ (f : MemoryFile). f.bytes) o) in
    let Q : Bool → Type 0 = λ b. false ≡ b || false in
    subst P (sym e) (subst Q next refl)

pub copied_there : (name : List ℕ) (all : MemoryFiles) (file : MemoryFile) (at count : ℕ) (into old : List ℕ)
    → file_of name all.files ≡ Some file → count ≡ min (length file.bytes - at) (length old)
    → into ≡ take count (drop at file.bytes) ++ drop count old
    → IfSome (contents_of all name) (λ bytes.
    (count ≡ min (length bytes - at) (length old)) × (into ≡ take count (drop at bytes) ++ drop count old))
copied_there name all file at count into old e counts copied =
    let P : Option MemoryFile → Type 0 =
    λ o. IfSome (option_map (λ (f : MemoryFile). f.bytes) o) (λ bytes.
    (count ≡ min (length bytes - at) (length old)) × (into ≡ take count (drop at bytes) ++ drop count old)) in
    subst P (sym e) (counts, copied)

reads : (bytes into old : List ℕ) (at count : ℕ) → count ≡ min (length bytes - at) (length old)
    → into ≡ take count (drop at bytes) ++ drop count old → ReadsAt bytes at into count
reads bytes into old at count counts copied =
    let size : length (take count (drop at bytes)) ≡ count =
    omega (arith, length-take count (drop at bytes), length-drop at bytes) in
    let whole : length into ≡ length old =
    omega (
      arith,
      ap length copied,
      length-append (take count (drop at bytes)) (drop count old),
      length-drop count old,
      size,
    ) in
    record {
      bytes = ap (λ (l : List ℕ). take count l) copied
          ∙ take_at (take count (drop at bytes)) (drop count old) count size;
      within = omega arith;
      end = λ none. elim (cases_lt at (length bytes)) [ inl before ↦ inl (omega arith) | inr past ↦ inr past ];
    }

pub reads_there : (name : List ℕ) (all : MemoryFiles) (file : MemoryFile) (at count : ℕ) (into old : List ℕ)
    → file_of name all.files ≡ Some file → count ≡ min (length file.bytes - at) (length old)
    → into ≡ take count (drop at file.bytes) ++ drop count old
    → IfSome (contents_of all name) (λ bytes. ReadsAt bytes at into count)
reads_there name all file at count into old e counts copied =
    let P : Option MemoryFile → Type 0 =
    λ o. IfSome (option_map (λ (f : MemoryFile). f.bytes) o) (λ bytes. ReadsAt bytes at into count) in
    subst P (sym e) (reads file.bytes into old at count counts copied)

-- a name that was given contents has them, and the others have theirs
pub added_contents : (name bytes : List ℕ) (all : MemoryFiles) (other : List ℕ)
    → contents_of (with_contents name bytes all) other ≡ cond (bytes_eq name other) (Some bytes) (contents_of all other)
added_contents name bytes all other =
    ap (λ (o : Option MemoryFile). option_map (λ (f : MemoryFile). f.bytes) o)
    (file_of-with_file other (record { name = name; bytes = bytes; faults = faults_of all name }) all.files)
    ∙ at_name (bytes_eq name other)
  where
    at_name : (b : Bool) → option_map (λ (f : MemoryFile). f.bytes)
        (cond b (Some (record { name = name; bytes = bytes; faults = faults_of all name })) (file_of other all.files))
        ≡ cond b (Some bytes) (contents_of all other)
    at_name true = refl
    at_name false = refl

-- and no count changes
pub added_faults : (name bytes : List ℕ) (all : MemoryFiles) (other : List ℕ)
    → faults_of (with_contents name bytes all) other ≡ faults_of all other
added_faults name bytes all other =
    ap (λ (o : Option MemoryFile). faults_in o all.others)
    (file_of-with_file other (record { name = name; bytes = bytes; faults = faults_of all name }) all.files)
    ∙ at_name (bytes_eq name other) refl
  where
    at_name : (b : Bool) → bytes_eq name other ≡ b
        → faults_in (cond b (Some (record { name = name; bytes = bytes; faults = faults_of all name }))
        (file_of other all.files)) all.others ≡ faults_of all other
    at_name true e = ap (λ (n : List ℕ). faults_of all n) ((bytes_eq-Decides name other).0 e)
    at_name false e = refl

pub faults_there : (name : List ℕ) (all : MemoryFiles) (file : MemoryFile) → file_of name all.files ≡ Some file
    → file.faults ≡ faults_of all name
faults_there name all file found = sym (ap (λ (o : Option MemoryFile). faults_in o all.others) found)

pub faults_absent : (name : List ℕ) (all : MemoryFiles) → file_of name all.files ≡ None
    → all.others ≡ faults_of all name
faults_absent name all none = sym (ap (λ (o : Option MemoryFile). faults_in o all.others) none)

-- the files after a failed read of a name that isn't there
pub fault_absent : (name : List ℕ) (all seen : MemoryFiles) (place others : ℕ) (calls : CallNumbers)
    → place ≡ place_of name all.files → length all.files ≤ place
    → others ≡ one_more all.others → calls ≡ called all.calls → all ≡ seen
    → record { files = all.files; others = others; calls = calls } ≡ files_failed name seen
fault_absent name all seen place others calls at past more counted same =
    let none : file_of name all.files ≡ None = absent name all.files place at past in
    let after : MemoryFiles = record { files = all.files; others = others; calls = calls } in
    let is : after ≡ with_fault None all =
    ap (λ (n : ℕ). record { files = all.files; others = n; calls = calls }) more
    ∙ ap (λ (k : CallNumbers). record { files = all.files; others = one_more all.others; calls = k }) counted in
    let P : MemoryFiles → Type 0 = λ a. after ≡ files_failed name a in
    subst P same (failed_absent name all after none is)

-- the files after a failed read of a name that is there
pub fault_there : (name : List ℕ) (all seen : MemoryFiles) (place : ℕ) (file new : MemoryFile) (calls : CallNumbers)
    → place ≡ place_of name all.files → place < length all.files → file ≡ get_or all.files place file
    → new ≡ faulty file → calls ≡ called all.calls → all ≡ seen
    → record { files = set all.files place new; others = all.others; calls = calls } ≡ files_failed name seen
fault_there name all seen place file new calls at within value more counted same =
    let found : file_of name all.files ≡ Some file = there name all.files place file at within value in
    let kept : new.name ≡ name = ap (λ (f : MemoryFile). f.name) more ∙ named name all.files file found in
    let put : set all.files place new ≡ with_file (faulty file) all.files =
    set_there name all.files place new at within kept ∙ ap (λ (f : MemoryFile). with_file f all.files) more in
    let after : MemoryFiles = record { files = set all.files place new; others = all.others; calls = calls } in
    let is : after ≡ with_fault (Some file) all =
    ap (λ (fs : List MemoryFile). record { files = fs; others = all.others; calls = calls }) put
    ∙ ap (λ (k : CallNumbers). record {
      files = with_file (faulty file) all.files;
      others = all.others;
      calls = k;
    }) counted in
    let P : MemoryFiles → Type 0 = λ a. after ≡ files_failed name a in
    subst P same (failed_there name all after file found is)

-- it changes no contents
pub fault_contents : (name : List ℕ) (seen after : MemoryFiles) → after ≡ files_failed name seen
    → (other : List ℕ) → contents_of after other ≡ contents_of seen other
fault_contents name seen after failed other =
    ap (λ (a : MemoryFiles). contents_of a other) failed ∙ failed_contents name seen other

-- the count of the name rises
pub fault_rises : (name : List ℕ) (seen after : MemoryFiles) → after ≡ files_failed name seen
    → Rises (faults_of seen name) (faults_of after name)
fault_rises name seen after failed =
    let P : MemoryFiles → Type 0 = λ a. Rises (faults_of seen name) (faults_of a name) in
    subst P (sym failed) (failed_rises name seen)

-- and none falls
pub fault_grows : (name : List ℕ) (seen after : MemoryFiles) (file : MemoryFile) → after ≡ files_failed name seen
    → file_of name seen.files ≡ Some file → file.faults ≤ one_more file.faults
    → (other : List ℕ) → faults_of seen other ≤ faults_of after other
fault_grows name seen after file failed found grows other =
    let P : MemoryFiles → Type 0 = λ a. faults_of seen other ≤ faults_of a other in
    subst P (sym failed) (failed_grows name seen other (λ e. absurd (cc (sym e ∙ found))) only)
  where
    only : (f : MemoryFile) → file_of name seen.files ≡ Some f → f.faults ≤ one_more f.faults
    only f e =
        let same : file ≡ f = cc (sym found ∙ e) in
        let Q : MemoryFile → Type 0 = λ x. x.faults ≤ one_more x.faults in
        subst Q same grows

-- the files once a name that is there was given contents
pub added_there : (name bytes : List ℕ) (all seen : MemoryFiles) (place : ℕ) (old new : MemoryFile)
    → place ≡ place_of name all.files → place < length all.files → old ≡ get_or all.files place old
    → new ≡ record { name = name; bytes = bytes; faults = old.faults } → all ≡ seen
    → record { files = set all.files place new; others = all.others; calls = all.calls } ≡ with_contents name bytes seen
added_there name bytes all seen place old new at within value made same =
    let found : file_of name all.files ≡ Some old = there name all.files place old at within value in
    let is : new ≡ record { name = name; bytes = bytes; faults = faults_of all name } =
    made ∙ ap (λ (n : ℕ). record { name = name; bytes = bytes; faults = n }) (faults_there name all old found) in
    let put : set all.files place new ≡ with_file new all.files =
    set_there name all.files place new at within (ap (λ (f : MemoryFile). f.name) is) in
    let P : MemoryFiles → Type 0 = λ a. record {
      files = set all.files place new;
      others = all.others;
      calls = all.calls;
    } ≡ with_contents name bytes a in
    subst P same (ap (λ (fs : List MemoryFile). record { files = fs; others = all.others; calls = all.calls })
    (put ∙ ap (λ (f : MemoryFile). with_file f all.files) is))

-- the files once a name that wasn't there was given contents
pub added_absent : (name bytes : List ℕ) (all seen : MemoryFiles) (place : ℕ) (new : MemoryFile)
    (files : List MemoryFile)
    → place ≡ place_of name all.files → length all.files ≤ place
    → new ≡ record { name = name; bytes = bytes; faults = all.others } → files ≡ all.files ++ new ∷ [] → all ≡ seen
    → record { files = files; others = all.others; calls = all.calls } ≡ with_contents name bytes seen
added_absent name bytes all seen place new files at past made pushed same =
    let none : file_of name all.files ≡ None = absent name all.files place at past in
    let is : new ≡ record { name = name; bytes = bytes; faults = faults_of all name } =
    made ∙ ap (λ (n : ℕ). record { name = name; bytes = bytes; faults = n }) (faults_absent name all none) in
    let put : all.files ++ new ∷ [] ≡ with_file new all.files =
    push_there name all.files place new at past (ap (λ (f : MemoryFile). f.name) is) in
    let P : MemoryFiles → Type 0 = λ a. record { files = files; others = all.others; calls = all.calls }
    ≡ with_contents name bytes a in
    subst P same (ap (λ (fs : List MemoryFile). record { files = fs; others = all.others; calls = all.calls })
    (pushed ∙ put ∙ ap (λ (f : MemoryFile). with_file f all.files) is))
