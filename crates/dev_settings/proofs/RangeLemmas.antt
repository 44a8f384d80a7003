-- A value that is read is in the range of its key.
use Rattle.std.proofs.Common.{◌≡◌, ℕ, ◌<◌, ◌≤◌, ◌&&◌, Bool, true, false, cond, leb, ltb, eqb, ℤ, pos, negsuc, List, []}
use Rattle.std.proofs.Common.{◌∷◌, length, Option, Some, None, Result, IsTrue, bytes_eq, codes, lit≤, refl, arith}
use Rattle.std.specs.Bool.{⊤}
use Rattle.std.specs.List.{All}
use Rattle.std.specs.Option.{IfSome, option_map, option_and_then, ok_or}
use Rattle.std.specs.Result.{IfOk}
use Rattle.std.proofs.lemmas.Bool.Decides.{nat_tests}
use Rattle.std.proofs.lemmas.Int.{ints}
use Rattle.std.proofs.lemmas.List.Elements.{All-cons}
use Rattle.tone_table.specs.Knots.{are_knots, knots_of}
use Rattle.tone_table.specs.declared.Curve.TheVariants.{Linear, Root, Knots}
use Rattle.toml.specs.Data.{Data, Members, get_member}
use Rattle.dev_settings.specs.Values.{Written, name, integer, integers, within, each, gain_of, gains_of, wb_of}
use Rattle.dev_settings.specs.Values.{level_of, exposure_of, entry_of, entries_of, matrix_of, tone_of, points_of}
use Rattle.dev_settings.specs.Values.{demosaic_of, change_of}
use Rattle.dev_settings.specs.Commands.{command_of, command_of_words, key_value_of, rectangle_of, region_of}
use Rattle.dev_settings.specs.Commands.{region_with, set_of, set_of_key, stat_of}
use Rattle.dev_settings.specs.Formats.{format_of}
use Rattle.dev_settings.specs.File.{data_value_of, passed_on, settings_from, with_value}
use Rattle.dev_settings.specs.Keys.{key_of, keys, name_of}
use Rattle.dev_settings.specs.Words.{words, number_of}
use Rattle.dev_settings.specs.Settings.{changed, standard_settings}
use Rattle.dev_settings.specs.declared.command.Command.{Command}
use Rattle.dev_settings.specs.declared.command.Command.TheVariants.{Set, Region}
use Rattle.dev_settings.specs.declared.format.Format.{Format}
use Rattle.dev_settings.specs.declared.command.LineFault.{LineFault}
use Rattle.dev_settings.specs.declared.command.LineFault.TheVariants as fault
use Rattle.dev_settings.specs.declared.key.Key.{Key}
use Rattle.dev_settings.specs.declared.key.Key.TheVariants as key
use Rattle.dev_settings.specs.declared.settings.Settings.{Settings}
use Rattle.dev_settings.specs.declared.settings.Change.{Change}
use Rattle.dev_settings.specs.declared.settings.Change.TheVariants as change
use Rattle.dev_settings.specs.declared.settings.MatrixChoice.TheVariants.{Auto, Camera, Forward1, Forward2, Own}
use Rattle.colour_matrix.specs.Balances.{IsGain}
use Rattle.colour_matrix.specs.Matrices.{IsEntry}
use Rattle.dev_settings.specs.Ranges.{MatrixInRange, CurveInRange, ChangeInRange, CommandInRange}
use Rattle.dev_settings.specs.Ranges.{SettingsInRange}

-- what holds of each value that is read holds of a value made of it
after_map : {X Y : Type 0} (P : X → Type 0) (Q : Y → Type 0) (f : X → Y) (o : Option X) → ((x : X) → P x → Q (f x))
    → IfSome o P → IfSome (option_map f o) Q
after_map P Q f None step h = tt
after_map P Q f (Some x) step h = step x h

after_and_then : {X Y : Type 0} (P : X → Type 0) (Q : Y → Type 0) (f : X → Option Y) (o : Option X)
    → ((x : X) → P x → IfSome (f x) Q) → IfSome o P → IfSome (option_and_then f o) Q
after_and_then P Q f None step h = tt
after_and_then P Q f (Some x) step h = step x h

either : {X : Type 0} (P : X → Type 0) (b : Bool) (x : X) (o : Option X) → P x → IfSome o P
    → IfSome (cond b (Some x) o) P
either P true x o h k = h
either P false x o h k = k

within_test : (low high n : ℕ) (b c : Bool) → leb low n ≡ b → leb n high ≡ c
    → IfSome (cond (b && c) (Some n) None) (λ x. (low ≤ x) × (x ≤ high))
within_test low high n true true e f = (grind (arith, nat_tests), grind (arith, nat_tests))
within_test low high n true false e f = tt
within_test low high n false c e f = tt

within_range : (low high : ℕ) (z : ℤ) → IfSome (within low high z) (λ n. (low ≤ n) × (n ≤ high))
within_range low high (pos n) = within_test low high n (leb low n) (leb n high) refl refl
within_range low high (negsuc n) = tt

each_all : {X Y : Type 0} (P : Y → Type 0) (read : X → Option Y) → ((x : X) → IfSome (read x) P) → (xs : List X)
    → IfSome (each read xs) (All P)
each_all P read one [] = λ k d h. absurd (omega arith)
each_all P read one (x ∷ xs) =
    after_and_then P (All P) (λ y. option_map (λ ys. y ∷ ys) (each read xs)) (read x)
    (λ y here. after_map (All P) (All P) (λ ys. y ∷ ys) (each read xs) (λ ys rest. All-cons P y ys here rest)
    (each_all P read one xs)) (one x)

gains_range : (ns : List ℤ) → IfSome (gains_of ns) (All IsGain)
gains_range [] = tt
gains_range (r ∷ []) = tt
gains_range (r ∷ g ∷ []) = tt
gains_range (r ∷ g ∷ b ∷ []) = each_all IsGain gain_of (λ z. within_range 1 1048576 z) (r ∷ g ∷ b ∷ [])
gains_range (r ∷ g ∷ b ∷ a ∷ ns) = tt

entry_range : (z : ℤ) → IfSome (entry_of z) IsEntry
entry_range (pos n) = entry_pos n (leb n 16777216) refl
  where
    entry_pos : (n : ℕ) (b : Bool) → leb n 16777216 ≡ b → IfSome (cond b (Some (pos n)) None) IsEntry
    entry_pos n true e = let h : n ≤ 16777216 = grind (arith, nat_tests) in (omega (arith, ints), omega (arith, ints))
    entry_pos n false e = tt
entry_range (negsuc n) = entry_neg n (ltb n 16777216) refl
  where
    entry_neg : (n : ℕ) (b : Bool) → ltb n 16777216 ≡ b → IfSome (cond b (Some (negsuc n)) None) IsEntry
    entry_neg n true e = let h : n < 16777216 = grind (arith, nat_tests) in (omega (arith, ints), omega (arith, ints))
    entry_neg n false e = tt

entries_range : (ns : List ℤ) (b : Bool) → IfSome (cond b (each entry_of ns) None) (All IsEntry)
entries_range ns true = each_all IsEntry entry_of entry_range ns
entries_range ns false = tt

knots_range : (points : List (ℕ × ℕ)) (b : Bool) → are_knots points ≡ b
    → IfSome (cond b (Some points) None) (λ ps. IsTrue (are_knots ps))
knots_range points true e = e
knots_range points false e = tt

-- of a value that may be there, nothing is asked
any : {X : Type 0} (o : Option X) → IfSome o (λ _. ⊤)
any None = tt
any (Some x) = tt

level_range : (w : Written) → IfSome (level_of 1 w) (λ level. IfSome level (λ n. 1 ≤ n))
level_range (name text) = either (λ level. IfSome level (λ n. 1 ≤ n)) (bytes_eq text (codes "frame")) None None tt tt
level_range (integer z) = after_map (λ n. (1 ≤ n) × (n ≤ 65535)) (λ level. IfSome level (λ n. 1 ≤ n)) (λ n. Some n)
    (within 1 65535 z) (λ n h. h.0) (within_range 1 65535 z)
level_range (integers ns) = tt

wb_range : (w : Written) → IfSome (wb_of w) (λ gains. IfSome gains (All IsGain))
wb_range (name text) = either (λ gains. IfSome gains (All IsGain)) (bytes_eq text (codes "shot")) None None tt tt
wb_range (integer z) = tt
wb_range (integers ns) = after_map (All IsGain) (λ gains. IfSome gains (All IsGain)) (λ gains. Some gains) (gains_of ns)
    (λ gains h. h) (gains_range ns)

exposure_range : (w : Written) → IfSome (exposure_of w) (λ n. n ≤ 65536)
exposure_range (name text) = tt
exposure_range (integer z) = weaker (within 0 65536 z) (within_range 0 65536 z)
  where
    weaker : (o : Option ℕ) → IfSome o (λ n. (0 ≤ n) × (n ≤ 65536)) → IfSome o (λ n. n ≤ 65536)
    weaker None h = tt
    weaker (Some n) h = h.1
exposure_range (integers ns) = tt

matrix_range : (w : Written) → IfSome (matrix_of w) MatrixInRange
matrix_range (name text) =
    either MatrixInRange (bytes_eq text (codes "auto")) Auto _ tt
    (either MatrixInRange (bytes_eq text (codes "camera")) Camera _ tt
    (either MatrixInRange (bytes_eq text (codes "forward1")) Forward1 _ tt
    (either MatrixInRange (bytes_eq text (codes "forward2")) Forward2 None tt tt)))
matrix_range (integer z) = tt
matrix_range (integers ns) = after_map (All IsEntry) MatrixInRange (λ entries. Own entries) (entries_of ns)
    (λ entries h. h) (entries_range ns (eqb (length ns) 9))

tone_range : (w : Written) → IfSome (tone_of w) CurveInRange
tone_range (name text) =
    either CurveInRange (bytes_eq text (codes "linear")) Linear _ tt
    (either CurveInRange (bytes_eq text (codes "root")) Root None tt tt)
tone_range (integer z) = tt
tone_range (integers ns) = after_map (λ ps. IsTrue (are_knots ps)) CurveInRange (λ ps. Knots ps)
    (option_and_then knots_of (points_of ns)) (λ ps h. h)
    (after_and_then (λ _. ⊤) (λ ps. IsTrue (are_knots ps)) knots_of (points_of ns)
    (λ points h. knots_range points (are_knots points) refl) (any (points_of ns)))

-- the change of a key to a value is in its range
pub change_range : (k : Key) (w : Written) → IfSome (change_of k w) ChangeInRange
change_range key.Black w = after_map (λ _. ⊤) ChangeInRange (λ level. change.Black level) (level_of 0 w) (λ level h. tt)
    (any (level_of 0 w))
change_range key.White w = after_map (λ level. IfSome level (λ n. 1 ≤ n)) ChangeInRange (λ level. change.White level)
    (level_of 1 w) (λ level h. h) (level_range w)
change_range key.Demosaic w = after_map (λ _. ⊤) ChangeInRange (λ kind. change.Demosaic kind) (demosaic_of w)
    (λ kind h. tt) (any (demosaic_of w))
change_range key.Wb w = after_map (λ gains. IfSome gains (All IsGain)) ChangeInRange (λ gains. change.Wb gains)
    (wb_of w) (λ gains h. h) (wb_range w)
change_range key.Exposure w = after_map (λ n. n ≤ 65536) ChangeInRange (λ n. change.Exposure n) (exposure_of w)
    (λ n h. h) (exposure_range w)
change_range key.Matrix w = after_map MatrixInRange ChangeInRange (λ choice. change.Matrix choice) (matrix_of w)
    (λ choice h. h) (matrix_range w)
change_range key.Tone w = after_map CurveInRange ChangeInRange (λ curve. change.Tone curve) (tone_of w) (λ curve h. h)
    (tone_range w)

-- settings are in range where each of them is
each_in_range : (s : Settings) → s.version ≡ 1 → ChangeInRange (change.White s.white) → ChangeInRange (change.Wb s.wb)
    → s.exposure ≤ 65536 → MatrixInRange s.matrix → CurveInRange s.tone → SettingsInRange s
each_in_range s version white wb exposure matrix tone =
    record { version = version; white = white; wb = wb; exposure = exposure; matrix = matrix; tone = tone }

-- settings in range are in range after a change that is in range
pub changed_range : (c : Change) (s : Settings) → ChangeInRange c → SettingsInRange s → SettingsInRange (changed c s)
changed_range (change.Black level) s h r = each_in_range _ r.version r.white r.wb r.exposure r.matrix r.tone
changed_range (change.White level) s h r = each_in_range _ r.version h r.wb r.exposure r.matrix r.tone
changed_range (change.Demosaic kind) s h r = each_in_range _ r.version r.white r.wb r.exposure r.matrix r.tone
changed_range (change.Wb gains) s h r = each_in_range _ r.version r.white h r.exposure r.matrix r.tone
changed_range (change.Exposure n) s h r = each_in_range _ r.version r.white r.wb h r.matrix r.tone
changed_range (change.Matrix choice) s h r = each_in_range _ r.version r.white r.wb r.exposure h r.tone
changed_range (change.Tone curve) s h r = each_in_range _ r.version r.white r.wb r.exposure r.matrix h

-- ---- the command of a line

either_ok : (b : Bool) (x y : Result Command LineFault) → IfOk x CommandInRange → IfOk y CommandInRange
    → IfOk (cond b x y) CommandInRange
either_ok true x y h k = h
either_ok false x y h k = k

or_fault : (o : Option Command) (e : LineFault) → IfSome o CommandInRange → IfOk (ok_or o e) CommandInRange
or_fault None e h = tt
or_fault (Some c) e h = h

rectangle_range : (x y w h : Option ℕ) (f : Option Format) → IfSome (region_with x y w h f) CommandInRange
rectangle_range (Some x) (Some y) (Some w) (Some h) (Some f) =
    either CommandInRange (ltb 0 w && ltb 0 h) (Region x y w h f) None tt tt
rectangle_range None _ _ _ _ = tt
rectangle_range (Some x) None _ _ _ = tt
rectangle_range (Some x) (Some y) None _ _ = tt
rectangle_range (Some x) (Some y) (Some w) None _ = tt
rectangle_range (Some x) (Some y) (Some w) (Some h) None = tt

region_range : (ws : List (List ℕ)) → IfOk (region_of ws) CommandInRange
region_range (x ∷ y ∷ w ∷ h ∷ f ∷ []) = or_fault (rectangle_of x y w h f) fault.Region
    (rectangle_range (number_of x) (number_of y) (number_of w) (number_of h) (format_of f))
region_range [] = tt
region_range (x ∷ []) = tt
region_range (x ∷ y ∷ []) = tt
region_range (x ∷ y ∷ w ∷ []) = tt
region_range (x ∷ y ∷ w ∷ h ∷ []) = tt
region_range (x ∷ y ∷ w ∷ h ∷ f ∷ g ∷ ws) = tt

stat_range : (ws : List (List ℕ)) → IfOk (stat_of ws) CommandInRange
stat_range [] = tt
stat_range (w ∷ ws) = tt

set_key_range : (k : Option Key) (ws : List (List ℕ)) → IfOk (set_of_key k ws) CommandInRange
set_key_range None ws = tt
set_key_range (Some k) ws = or_fault (option_map (λ c. Set c) (option_and_then (change_of k) (key_value_of k ws)))
    fault.Value
    (after_map ChangeInRange CommandInRange (λ c. Set c) (option_and_then (change_of k) (key_value_of k ws)) (λ c h. h)
    (after_and_then (λ _. ⊤) ChangeInRange (change_of k) (key_value_of k ws) (λ w h. change_range k w)
    (any (key_value_of k ws))))

set_range : (ws : List (List ℕ)) → IfOk (set_of ws) CommandInRange
set_range [] = tt
set_range (w ∷ ws) = set_key_range (key_of w) ws

words_range : (ws : List (List ℕ)) → IfOk (command_of_words ws) CommandInRange
words_range [] = tt
words_range (word ∷ ws) = either_ok (bytes_eq word (codes "set")) _ _ (set_range ws)
    (either_ok (bytes_eq word (codes "region")) _ _ (region_range ws)
    (either_ok (bytes_eq word (codes "stat")) _ _ (stat_range ws) tt))

pub command_range : (text : List ℕ) → IfOk (command_of text) CommandInRange
command_range text = words_range (words text)

-- ---- the settings of a file

with_value_range : (k : Key) (o : Option Data) (s : Settings) → SettingsInRange s
    → IfSome (with_value k o s) SettingsInRange
with_value_range k None s r = r
with_value_range k (Some held) s r = after_map ChangeInRange SettingsInRange (λ c. changed c s)
    (option_and_then (change_of k) (data_value_of held)) (λ c h. changed_range c s h r)
    (after_and_then (λ _. ⊤) ChangeInRange (change_of k) (data_value_of held) (λ w h. change_range k w)
    (any (data_value_of held)))

passed_range : (k : Key) (next : Settings → Result Settings Key) (o : Option Settings) → IfSome o SettingsInRange
    → ((s : Settings) → SettingsInRange s → IfOk (next s) SettingsInRange) → IfOk (passed_on k next o) SettingsInRange
passed_range k next None h step = tt
passed_range k next (Some s) h step = step s h

from_range : (ms : Members) (ks : List Key) (s : Settings) → SettingsInRange s
    → IfOk (settings_from ms ks s) SettingsInRange
from_range ms [] s r = r
from_range ms (k ∷ ks) s r = passed_range k (λ next. settings_from ms ks next)
    (with_value k (get_member (name_of k) ms) s)
    (with_value_range k (get_member (name_of k) ms) s r) (λ next h. from_range ms ks next h)

pub keys_range : (ms : Members) (r : Result Settings Key) → r ≡ settings_from ms keys standard_settings
    → IfOk r SettingsInRange
keys_range ms r e = rw e (from_range ms keys standard_settings
    (record { version = refl; white = tt; wb = tt; exposure = lit≤ tt; matrix = tt; tone = tt }))

-- a result that is the command of a line
pub IfOk-command : (text : List ℕ) (r : Result Command LineFault) → r ≡ command_of text → IfOk r CommandInRange
IfOk-command text r e = rw e (command_range text)
