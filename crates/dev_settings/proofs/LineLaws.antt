-- Laws of a script's lines, for this crate's proofs and for those of callers.
use Rattle.std.proofs.Common.{◌≡◌, ℕ, Bool, true, false, cond, eqb, List, [], ◌∷◌, ◌++◌, refl, ap}
use Rattle.dev_settings.specs.Lines.{Lines, lines_of, unended, with_first, with_byte}

-- a byte before the first line
pub with_byte_first : (byte : ℕ) (line : List ℕ) (lines rest : Lines) → rest ≡ with_first line lines
    → with_byte byte rest.complete rest.rest ≡ with_first (byte ∷ line) lines
with_byte_first byte line lines rest e = rw e

-- a byte before the rest
pub with_byte_unended : (byte : ℕ) (bytes : List ℕ) (rest : Lines) → rest ≡ unended bytes
    → with_byte byte rest.complete rest.rest ≡ unended (byte ∷ bytes)
with_byte_unended byte bytes rest e = rw e

-- the lines of a prefix of a script, given the bytes that follow it: its complete lines stay, its rest goes on
abbrev pub followed_by : Lines → List ℕ → Lines
followed_by prefix bytes = record {
  complete = prefix.complete ++ (lines_of (prefix.rest ++ bytes)).complete;
  rest = (lines_of (prefix.rest ++ bytes)).rest;
}

append_byte : (byte : ℕ) (lines : List (List ℕ)) (rest bytes : List ℕ) (whole : Lines) → eqb byte 10 ≡ false
    → whole ≡ followed_by (record { complete = lines; rest = rest }) bytes
    → with_byte byte whole.complete whole.rest ≡ followed_by (with_byte byte lines rest) bytes
append_byte byte [] rest bytes whole e before = rw (before, e)
append_byte byte (line ∷ lines) rest bytes whole e before = rw before

append_step : (byte : ℕ) (prefix whole : Lines) (bytes : List ℕ) (b : Bool) → eqb byte 10 ≡ b
    → whole ≡ followed_by prefix bytes
    → cond b (with_first [] whole) (with_byte byte whole.complete whole.rest)
    ≡ followed_by (cond b (with_first [] prefix) (with_byte byte prefix.complete prefix.rest)) bytes
append_step byte prefix whole bytes true e before = ap (with_first []) before
append_step byte prefix whole bytes false e before = append_byte byte prefix.complete prefix.rest bytes whole e before

-- a script in two pieces
pub lines_of-append : (prefix bytes : List ℕ) → lines_of (prefix ++ bytes) ≡ followed_by (lines_of prefix) bytes
lines_of-append [] bytes = refl
lines_of-append (byte ∷ prefix) bytes =
    append_step byte (lines_of prefix) (lines_of (prefix ++ bytes)) bytes (eqb byte 10) refl
    (lines_of-append prefix bytes)
