-- A script that is read piece by piece: the lines that were answered so far, in a piece and in the whole.
use Rattle.std.proofs.Common.{◌≡◌, ℕ, nat_eq, true, false, List, [], ◌∷◌, ◌++◌, length, Result, Ok, Err, refl, sym, ◌∙◌}
use Rattle.std.proofs.Common.{ap, subst, append_assoc, drop, length-take, arith}
use Rattle.std.specs.Prelude.{OnOk}
use Rattle.std.proofs.lemmas.Bool.{eqb-true}
use Rattle.std.proofs.lemmas.List.{append-nil, nil_from_length}
use Rattle.std.specs.Io.{StartsWith}
use Rattle.std.proofs.KnownBytes.{starts_with_rest}
use Rattle.std.proofs.Transfers.{starts_with_of_append, starts_with_of_eq}
use Rattle.raw_io.specs.Outside.{Appends}
use Rattle.dev_settings.specs.Lines.{Lines, last_line, lines_of, unended, with_first}
use Rattle.developer.specs.Answers.{Answer}
use Rattle.developer.specs.inner.Reading.{IsAnswered, Sends, kept_of}
use Rattle.developer.specs.Replies.{answer_of}
use Rattle.developer.specs.Sessions.{InForce}
use Rattle.developer.specs.Transcript.{answers_to}
use Rattle.developer.specs.Answered.{ByCause}
use Rattle.developer.specs.declared.writing.Cause.{Cause}
use Rattle.developer.specs.declared.writing.Cause.TheVariants as causes
use Rattle.developer.proofs.Answering.{answers_prefix, answers_then}
use Rattle.raw_io.proofs.Pieces.{appends_nothing, appends_then}
use Rattle.developer.proofs.ScriptLines.{answer_of_kept, line_after, rest_after}

-- the cause of a stop, where the count of faults hadn't changed before
by_cause : (cause : Cause) (first mid now : ℕ) → mid ≡ first → ByCause cause mid now → ByCause cause first now
by_cause cause first mid now same by = subst (λ (n : ℕ). ByCause cause n now) same by

-- of a line that has no byte none is kept, and no line is left
kept_none : (line kept : List ℕ) → kept ≡ kept_of line → nat_eq (length kept) 0 ≡ true → last_line line ≡ []
kept_none line kept is none =
    let bytes : length kept ≡ 0 = eqb-true (length kept) 0 none in
    ap last_line (nil_from_length line (omega (arith, ap length is, length-take 4097 line)))

-- of a line that has a byte one is kept
kept_some : (line kept : List ℕ) → kept ≡ kept_of line → nat_eq (length kept) 0 ≡ false → last_line line ≡ line ∷ []
kept_some [] kept is some = let none : nat_eq (length kept) 0 ≡ true = ap (λ (bytes : List ℕ). nat_eq (length bytes) 0)
    is in absurd (cc)
kept_some (byte ∷ bytes) kept is some = refl

module _ {S : Type 0} (stands_for : S → List ℕ → Type 0) (faults : S → ℕ) where
  -- the same answers
  sends_same : {T : Type 0} (old new : S) (bytes others : List ℕ) (result : Result T Cause) → bytes ≡ others
      → Sends stands_for faults old new bytes result → Sends stands_for faults old new others result
  sends_same old new bytes others result e s = subst (λ (b : List ℕ). Sends stands_for faults old new b result) e s

  -- one line that was answered
  pub answered_line : {T : Type 0} (old new : S) (state after : InForce) (line : List ℕ) (result : Result T Cause)
      → Sends stands_for faults old new (answer_of state line).bytes result
      → OnOk result (after ≡ (answer_of state line).state)
      → IsAnswered stands_for faults old new state (line ∷ []) after result
  answered_line old new state after line result sends reached = record {
    sends = sends_same old new (answer_of state line).bytes ((answer_of state line).bytes ++ []) result
        (sym (append-nil (answer_of state line).bytes)) sends;
    state = reached;
  }

  -- the same of what is kept of a line
  pub answered_kept : {T : Type 0} (old new : S) (state after : InForce) (line kept : List ℕ) (result : Result T Cause)
      → kept ≡ kept_of line
      → Sends stands_for faults old new (answer_of state kept).bytes result
      → OnOk result (after ≡ (answer_of state kept).state)
      → IsAnswered stands_for faults old new state (line ∷ []) after result
  answered_kept old new state after line kept result is sends reached =
      let same : answer_of state kept ≡ answer_of state line = ap (answer_of state) is ∙ answer_of_kept state line in
      answered_line old new state after line result
      (subst (λ (a : Answer InForce). Sends stands_for faults old new a.bytes result) same sends)
      (subst (λ (a : Answer InForce). OnOk result (after ≡ a.state)) same reached)

  -- the line that the end of the script ends, where it has a byte
  pub answered_last : {T : Type 0} (old new : S) (state after : InForce) (line kept : List ℕ) (result : Result T Cause)
      → kept ≡ kept_of line → nat_eq (length kept) 0 ≡ false
      → Sends stands_for faults old new (answer_of state kept).bytes result
      → OnOk result (after ≡ (answer_of state kept).state)
      → IsAnswered stands_for faults old new state (last_line line) after result
  answered_last old new state after line kept result is some sends reached =
      subst (λ (l : List (List ℕ)). IsAnswered stands_for faults old new state l after result)
      (sym (kept_some line kept is some))
      (answered_kept old new state after line kept result is sends reached)

  -- and where it has none
  pub answered_none : {T : Type 0} (sink : S) (state : InForce) (line kept : List ℕ) (value : T) → kept ≡ kept_of line
      → nat_eq (length kept) 0 ≡ true
      → IsAnswered stands_for faults sink sink state (last_line line) state (Ok value)
  answered_none sink state line kept value is none =
      let P : List (List ℕ) → Type 0 = λ l. IsAnswered stands_for faults sink sink state l state (Ok value) in
      subst P (sym (kept_none line kept is none))
      (record {
        sends = record {
          whole = appends_nothing stands_for sink;
          prefix = tt;
          calm = refl;
          counts = omega arith;
          cause = tt;
        };
        state = refl;
      })

  module _ (first : S) (start : InForce) where
    -- these lines were answered
    pub record HaveAnswers (now : S) (lines : List (List ℕ)) (state : InForce) : Type 0 where
      pub appends : Appends stands_for first now (answers_to start lines).bytes
      pub calm : faults now ≡ faults first
      pub reached : state ≡ (answers_to start lines).state

    -- none yet
    pub have_none : HaveAnswers first [] start
    have_none = record { appends = appends_nothing stands_for first; calm = refl; reached = refl }

    -- the same lines, named otherwise
    pub have_same : (now : S) (lines others : List (List ℕ)) (state : InForce) → lines ≡ others
        → HaveAnswers now lines state → HaveAnswers now others state
    have_same now lines others state e h = subst (λ (l : List (List ℕ)). HaveAnswers now l state) e h

    -- these, and then those
    pub have_more : {T : Type 0} (now new : S) (prefix lines : List (List ℕ)) (state after : InForce) (value : T)
        → HaveAnswers now prefix state
        → IsAnswered stands_for faults now new state lines after (Ok value) → HaveAnswers new (prefix ++ lines) after
    have_more now new prefix lines state after value h a =
        let both = answers_then answer_of start prefix lines state h.reached in
        record {
          appends = subst (Appends stands_for first new) (ap (λ (b : Answer InForce). b.bytes) (sym both))
              (appends_then stands_for first now new (answers_to start prefix).bytes (answers_to state lines).bytes
              h.appends a.sends.whole);
          calm = a.sends.calm ∙ h.calm;
          reached = a.state ∙ ap (λ (b : Answer InForce). b.state) (sym both);
        }

    -- all of them
    pub have_all : {T : Type 0} (now : S) (lines : List (List ℕ)) (state : InForce) (value : T)
        → HaveAnswers now lines state → IsAnswered stands_for faults first now start lines state (Ok value)
    have_all now lines state value h = record {
      sends = record { whole = h.appends; prefix = tt; calm = h.calm; counts = omega (arith, h.calm); cause = tt };
      state = h.reached;
    }

    -- these, and then those were cut short
    pub have_stop : {T U : Type 0} (now new : S) (prefix lines more all : List (List ℕ)) (state after last : InForce)
        (cause : Cause) → (prefix ++ lines) ++ more ≡ all → HaveAnswers now prefix state
        → IsAnswered {T = T} stands_for faults now new state lines after (Err cause)
        → IsAnswered {T = U} stands_for faults first new start all last (Err cause)
    have_stop now new prefix lines more all state after last cause is h a =
        let cut = a.sends.prefix in
        let both = answers_then answer_of start prefix lines state h.reached in
        let written : List ℕ = (answers_to start prefix).bytes ++ cut.0 in
        let later : List ℕ = (answers_to state lines).bytes in
        let rest : List ℕ = drop (length cut.0) later in
        let within : StartsWith (answers_to start (prefix ++ lines)).bytes written =
        starts_with_of_append (answers_to start (prefix ++ lines)).bytes written rest
        (ap (λ (b : Answer InForce). b.bytes) both
        ∙ (ap (λ (bytes : List ℕ). (answers_to start prefix).bytes ++ bytes) (starts_with_rest later cut.0 cut.2)
        ∙ sym (append_assoc (answers_to start prefix).bytes cut.0 rest))) in
        record {
          sends = record {
            whole = tt;
            prefix = (
              written,
              appends_then stands_for first now new (answers_to start prefix).bytes cut.0 h.appends cut.1,
              subst (λ (l : List (List ℕ)). StartsWith (answers_to start l).bytes written) is
                  (answers_prefix answer_of start (prefix ++ lines) more written within),
            );
            calm = tt;
            counts = omega (arith, a.sends.counts, h.calm);
            cause = by_cause cause (faults first) (faults now) (faults new) h.calm a.sends.cause;
          };
          state = tt;
        }

    -- these, and then memory ran out
    pub have_no_memory : {T : Type 0} (now : S) (prefix more all : List (List ℕ)) (state last : InForce) → prefix
        ++ more ≡ all → HaveAnswers now prefix state
        → IsAnswered {T = T} stands_for faults first now start all last (Err causes.Memory)
    have_no_memory now prefix more all state last is h = record {
      sends = record {
        whole = tt;
        prefix = (
          (answers_to start prefix).bytes,
          h.appends,
          subst (λ (l : List (List ℕ)). StartsWith (answers_to start l).bytes (answers_to start prefix).bytes) is
              (answers_prefix answer_of start prefix more (answers_to start prefix).bytes
              (starts_with_of_eq (answers_to start prefix).bytes (answers_to start prefix).bytes refl)),
        );
        calm = tt;
        counts = omega (arith, h.calm);
        cause = h.calm;
      };
      state = tt;
    }

    -- in a piece the first lines were answered, and the others are those of a line that began and of the rest
    pub record PieceSoFar (now : S) (whole rest line : List ℕ) (state : InForce) : Type 0 where
      pub prefix : List (List ℕ)
      pub pending : List ℕ
      pub unfinished : lines_of pending ≡ unended pending
      pub have : HaveAnswers now prefix state
      pub lines : prefix ++ (lines_of (pending ++ rest)).complete ≡ (lines_of whole).complete
      pub end : (lines_of (pending ++ rest)).rest ≡ (lines_of whole).rest
      pub kept : line ≡ kept_of pending

    -- no line yet
    pub piece_none : (before piece line : List ℕ) → lines_of before ≡ unended before → line ≡ kept_of before
        → PieceSoFar first (before ++ piece) piece line start
    piece_none before piece line unfinished kept = record {
      prefix = [];
      pending = before;
      unfinished = unfinished;
      have = have_none;
      lines = refl;
      end = refl;
      kept = kept;
    }

    module _ (now : S) (whole rest line : List ℕ) (state : InForce) (so-far : PieceSoFar now whole rest line state)
      where
        -- memory ran out for what follows
        pub piece_no_memory : {T : Type 0} (last : InForce) → IsAnswered {T = T} stands_for faults first now start
            (lines_of whole).complete last (Err causes.Memory)
        piece_no_memory last = have_no_memory now so-far.prefix (lines_of (so-far.pending ++ rest)).complete
            (lines_of whole).complete state last so-far.lines so-far.have

        module _ (end after : List ℕ) (is : lines_of rest ≡ with_first end (lines_of after)) where
          -- the next line, and those after it
          next_is : lines_of (so-far.pending ++ rest) ≡ with_first (so-far.pending ++ end) (lines_of after)
          next_is = line_after so-far.pending rest end (lines_of after) so-far.unfinished is

          -- with the next line in prefix
          next_lines : (so-far.prefix ++ (so-far.pending ++ end) ∷ [])
              ++ (lines_of after).complete ≡ (lines_of whole).complete
          next_lines =
              append_assoc so-far.prefix ((so-far.pending ++ end) ∷ []) (lines_of after).complete
              ∙ (ap (λ (l : Lines). so-far.prefix ++ l.complete) (sym next_is) ∙ so-far.lines)

          -- one line more
          pub piece_more : {T : Type 0} (new : S) (kept : List ℕ) (reached : InForce) (value : T)
              → kept ≡ kept_of (so-far.pending ++ end)
              → Sends stands_for faults now new (answer_of state kept).bytes (Ok value)
              → reached ≡ (answer_of state kept).state → (cleared : List ℕ) → cleared ≡ []
              → PieceSoFar new whole after cleared reached
          piece_more new kept reached value keeps sends reaches cleared none = record {
            prefix = so-far.prefix ++ (so-far.pending ++ end) ∷ [];
            pending = [];
            unfinished = refl;
            have = have_more now new so-far.prefix ((so-far.pending ++ end) ∷ []) state reached value so-far.have
                (answered_kept now new state reached (so-far.pending ++ end) kept (Ok value) keeps sends reaches);
            lines = next_lines;
            end = ap (λ (l : Lines). l.rest) (sym next_is) ∙ so-far.end;
            kept = none;
          }

          -- a line that wasn't answered whole
          pub piece_stops : {T U : Type 0} (new : S) (kept : List ℕ) (reached last : InForce) (cause : Cause)
              → kept ≡ kept_of (so-far.pending ++ end)
              → Sends {T = T} stands_for faults now new (answer_of state kept).bytes (Err cause)
              → IsAnswered {T = U} stands_for faults first new start (lines_of whole).complete last (Err cause)
          piece_stops new kept reached last cause keeps sends =
              have_stop now new so-far.prefix ((so-far.pending ++ end) ∷ []) (lines_of after).complete
              (lines_of whole).complete state reached last cause next_lines so-far.have
              (answered_kept now new state reached (so-far.pending ++ end) kept (Err cause) keeps sends tt)

        module _ (is : lines_of rest ≡ unended rest) where
          -- no line is left
          rest_is : lines_of (so-far.pending ++ rest) ≡ unended (so-far.pending ++ rest)
          rest_is = rest_after so-far.pending rest so-far.unfinished is

          -- all complete lines were answered
          pub piece_all : {T : Type 0} (value : T)
              → IsAnswered stands_for faults first now start (lines_of whole).complete state (Ok value)
          piece_all value =
              have_all now (lines_of whole).complete state value
              (have_same now so-far.prefix (lines_of whole).complete state (sym (append-nil so-far.prefix)
              ∙ (ap (λ (l : Lines). so-far.prefix ++ l.complete) (sym rest_is) ∙ so-far.lines)) so-far.have)

          -- what follows them is kept
          pub piece_kept : (kept : List ℕ) → kept ≡ kept_of (so-far.pending ++ rest)
              → kept ≡ kept_of (lines_of whole).rest
          piece_kept kept keeps = keeps ∙ ap kept_of (ap (λ (l : Lines). l.rest) (sym rest_is) ∙ so-far.end)
