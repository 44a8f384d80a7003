-- The lines of a script that is read piece by piece, and what is kept of a line.
use Rattle.std.proofs.Common.{◌≡◌, ℕ, ◌+◌, ◌-◌, ◌<◌, ◌≤◌, min, Bool, true, false, cond, eqb, inl, inr, List, [], ◌∷◌}
use Rattle.std.proofs.Common.{◌++◌, length, take, None, refl, sym, ◌∙◌, ap, length-append, length-take, arith}
use Rattle.std.proofs.lemmas.Bool.{cases_lt, lt-ltb}
use Rattle.std.proofs.lemmas.List.{append-nil, nil_from_length, take_all, take-append-le, take-take, take_min}
use Rattle.std.proofs.Math.Seq.{take-append-add}
use Rattle.dev_settings.specs.Lines.{Lines, line_text_of, lines_of, unended, with_byte, with_first}
use Rattle.dev_settings.proofs.LineLaws.{followed_by, lines_of-append, with_byte_first, with_byte_unended}
use Rattle.developer.specs.inner.Reading.{kept_of}
use Rattle.developer.specs.Replies.{answer_of, line_answer}
use Rattle.developer.specs.Sessions.{InForce}

-- these complete lines, and this rest
abbrev lines_with : List (List ℕ) → List ℕ → Lines
lines_with complete rest = record { complete = complete; rest = rest }

-- with no complete line a first byte is no line feed, and no line is complete after it
unended_step : (byte : ℕ) (b : Bool) (complete : List (List ℕ)) (rest before : List ℕ)
    → cond b (with_first [] (lines_with complete rest)) (with_byte byte complete rest) ≡ unended (byte ∷ before)
    → (b ≡ false) × (lines_with complete rest ≡ unended before)
unended_step byte true complete rest before e =
    let ended : [] ∷ complete ≡ [] = ap (λ (l : Lines). l.complete) e in absurd (cc)
unended_step byte false [] rest before e =
    let bytes : byte ∷ rest ≡ byte ∷ before = ap (λ (l : Lines). l.rest) e in
    let same : rest ≡ before = cc in
    (refl, ap unended same)
unended_step byte false (line ∷ lines) rest before e =
    let ended : (byte ∷ line) ∷ lines ≡ [] = ap (λ (l : Lines). l.complete) e in absurd (cc)

-- a first line that begins before the piece in which it ends
pub line_after : (before rest line : List ℕ) (more : Lines) → lines_of before ≡ unended before
    → lines_of rest ≡ with_first line more → lines_of (before ++ rest) ≡ with_first (before ++ line) more
line_after [] rest line more unfinished is = is
line_after (byte ∷ before) rest line more unfinished is =
    let s = unended_step byte (eqb byte 10) (lines_of before).complete (lines_of before).rest before unfinished in
    rw s.0 (with_byte_first byte (before ++ line) more _ (line_after before rest line more s.1 is))

-- no line ends in a piece
pub rest_after : (before rest : List ℕ) → lines_of before ≡ unended before → lines_of rest ≡ unended rest
    → lines_of (before ++ rest) ≡ unended (before ++ rest)
rest_after [] rest unfinished is = is
rest_after (byte ∷ before) rest unfinished is =
    let s = unended_step byte (eqb byte 10) (lines_of before).complete (lines_of before).rest before unfinished in
    rw s.0 (with_byte_unended byte (before ++ rest) _ (rest_after before rest s.1 is))

-- no line ends in what follows the last complete one
pub rest_unended : (script : List ℕ) → lines_of (lines_of script).rest ≡ unended (lines_of script).rest
rest_unended script =
    let whole : lines_of script ≡ followed_by (lines_of script) [] = ap lines_of (sym (append-nil script))
    ∙ lines_of-append script [] in
    let same : (lines_of script).rest ++ [] ≡ (lines_of script).rest = append-nil (lines_of script).rest in
    let complete : (lines_of script).complete ≡ (lines_of script).complete
    ++ (lines_of (lines_of script).rest).complete =
    ap (λ (l : Lines). l.complete) whole ∙ ap (λ (bytes : List ℕ). (lines_of script).complete
    ++ (lines_of bytes).complete) same in
    let rest : (lines_of script).rest ≡ (lines_of (lines_of script).rest).rest = ap (λ (l : Lines). l.rest) whole
    ∙ ap (λ (bytes : List ℕ). (lines_of bytes).rest) same in
    let lengths : length (lines_of script).complete ≡ length (lines_of script).complete + length
    (lines_of (lines_of script).rest).complete =
    ap length complete ∙ length-append (lines_of script).complete (lines_of (lines_of script).rest).complete in
    let none : (lines_of (lines_of script).rest).complete ≡ [] =
    nil_from_length (lines_of (lines_of script).rest).complete (omega arith) in
    ap (λ (complete : List (List ℕ)). lines_with complete (lines_of (lines_of script).rest).rest) none
    ∙ ap unended (sym rest)

-- a line of more than 4,096 bytes has no text
no_text : (line : List ℕ) → 4096 < length line → line_text_of line ≡ None
no_text line long = rw (lt-ltb 4096 (length line) long) refl

-- what is kept of a line has its text
text_of_kept : (line : List ℕ) → line_text_of (take 4097 line) ≡ line_text_of line
text_of_kept line = elim (cases_lt 4096 (length line)) [
  | inl long ↦
      let longer : 4096 < length (take 4097 line) = omega (arith, length-take 4097 line) in
      no_text (take 4097 line) longer ∙ sym (no_text line long)
  | inr short ↦ ap line_text_of (take_all 4097 line (omega arith))
]

-- and is answered as the line is
pub answer_of_kept : (now : InForce) (line : List ℕ) → answer_of now (kept_of line) ≡ answer_of now line
unfolding answer_of
answer_of_kept now line = ap (line_answer now) (text_of_kept line)

-- so many first bytes, of bytes and then of others
pub take_both : (most : ℕ) (before bytes old : List ℕ) (n : ℕ) → old ≡ take most before
    → n ≡ min (length bytes) (most - min (length old) most) → old ++ take n bytes ≡ take most (before ++ bytes)
take_both most before bytes old n is fits = elim (cases_lt most (length before)) [
  | inl long ↦
      let full : length old ≡ most = ap length is ∙ omega (arith, length-take most before) in
      let none : n ≡ 0 = omega arith in
      ap (λ (k : ℕ). old ++ take k bytes) none
      ∙ (append-nil old ∙ (is ∙ sym (take-append-le most before bytes (omega arith))))
  | inr short ↦
      let whole : old ≡ before = is ∙ take_all most before short in
      let same : length old ≡ length before = ap length whole in
      let room : n ≡ min (most - length before) (length bytes) = omega arith in
      let at : most ≡ length before + (most - length before) = omega arith in
      ap (λ (prefix : List ℕ). prefix ++ take n bytes) whole
      ∙ (ap (λ (k : ℕ). before ++ take k bytes) room
      ∙ (ap (λ (more : List ℕ). before ++ more) (take_min (most - length before) bytes)
      ∙ (sym (take-append-add before bytes (most - length before))
      ∙ ap (λ (k : ℕ). take k (before ++ bytes)) (sym at))))
]

-- the same, where the others are the first ones of a buffer
pub take_piece : (most : ℕ) (before buffer : List ℕ) (count within : ℕ) → count ≤ length buffer
    → within ≡ min count (most - min (length before) most)
    → take most before ++ take within buffer ≡ take most (before ++ take count buffer)
take_piece most before buffer count within there fits =
    let few : length (take count buffer) ≡ count = omega (arith, length-take count buffer) in
    let prefix : length (take most before) ≡ min most (length before) = length-take most before in
    ap (λ (bytes : List ℕ). take most before ++ bytes) (sym (take-take within count buffer (omega arith)))
    ∙ take_both most before (take count buffer) (take most before) within refl (omega arith)
