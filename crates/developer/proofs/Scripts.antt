-- A script of which some bytes were taken and the complete lines answered, and what its reading promises then.
use Rattle.std.proofs.Common.{◌≡◌, ℕ, ◌+◌, ◌-◌, ◌<◌, ◌≤◌, inl, inr, List, [], ◌++◌, length, take, Option, Ok, Err, refl}
use Rattle.std.proofs.Common.{sym, ◌∙◌, ap, length-append, length-take, arith}
use Rattle.std.proofs.lemmas.List.{append-nil, take_all}
use Rattle.std.specs.Io.KnownBytes.{Consumes, IsAtEnd, Keeps}
use Rattle.std.proofs.KnownBytes.{Consumes-kept, Consumes-nil, Consumes-trans}
use Rattle.raw_io.specs.Outside.{Rises}
use Rattle.dev_settings.specs.Lines.{Lines, all_lines, last_line, lines_of}
use Rattle.dev_settings.proofs.LineLaws.{lines_of-append}
use Rattle.developer.specs.inner.Reading.{IsAnswered, IsPrefixOfAnswers, IsWhole, Outcome, Reads, kept_of}
use Rattle.developer.specs.inner.Endings.{ending_of}
use Rattle.developer.specs.Sessions.{InForce}
use Rattle.developer.specs.Transcript.{answers_to, max_script}
use Rattle.developer.specs.Answered.{ByCause}
use Rattle.developer.specs.declared.status.Ending.TheVariants as endings
use Rattle.developer.specs.declared.writing.Cause.{Cause}
use Rattle.developer.specs.declared.writing.Cause.TheVariants as causes
use Rattle.raw_io.proofs.Pieces.{appends_nothing, consumes_all, consumes_still, rises_last}
use Rattle.developer.proofs.Readings.{HaveAnswers, have_more, have_none, have_same, have_stop}
use Rattle.developer.proofs.ScriptLines.{take_piece}

-- the longest prefix that a script may have
abbrev pub prefix_of : List ℕ → List ℕ
prefix_of bytes = take max_script bytes

-- of no bytes
prefix_of_none : prefix_of [] ≡ []
prefix_of_none = take_all max_script [] (omega arith)

module _ {C S : Type 0} (left : C → Option (List ℕ)) (script_faults : C → ℕ) (stands_for : S → List ℕ → Type 0)
    (sink_faults : S → ℕ) (start : InForce) (before : C) (first : S) where
  -- an answer that was cut short
  stop_outcome : (T : Type 0) (after : C) (now : S) (state : InForce) (taken written : List ℕ) (cause : Cause)
      → ByCause cause (sink_faults first) (sink_faults now)
      → IsPrefixOfAnswers left before after start taken written
      → Outcome left script_faults sink_faults start before after first
      now state taken written {T = T} (Err (ending_of cause))
  stop_outcome T after now state taken written causes.Write by prefix = (by, prefix)
  stop_outcome T after now state taken written causes.Memory by prefix = prefix

  -- nothing was taken, and memory ran out
  pub script_no_memory : {T : Type 0} (state : InForce) → Reads {T = T} left script_faults stands_for sink_faults start
      before before first first state (Err endings.Memory)
  script_no_memory state = record {
    taken = [];
    written = [];
    takes = Consumes-nil (left before);
    appends = appends_nothing stands_for first;
    script = omega arith;
    sink = omega arith;
    outcome = inl refl;
  }

  -- these bytes were taken, and the complete lines of as many as a script may have were answered
  pub record ScriptSoFar (now : C) (sink : S) (line : List ℕ) (state : InForce) (taken : ℕ) : Type 0 where
    pub bytes : List ℕ
    pub takes : Consumes (left before) (left now) bytes
    pub count : length bytes ≡ taken
    pub most : taken ≤ max_script + 1
    pub calm : script_faults now ≡ script_faults before
    pub have : HaveAnswers stands_for sink_faults first start sink (lines_of (prefix_of bytes)).complete state
    pub kept : line ≡ kept_of (lines_of (prefix_of bytes)).rest
    pub few : state.session.stamps.changes ≤ taken

  -- none yet
  pub script_none : (line : List ℕ) → line ≡ [] → start.session.stamps.changes ≡ 0
      → ScriptSoFar before first line start 0
  script_none line none begun = record {
    bytes = [];
    takes = Consumes-nil (left before);
    count = refl;
    most = omega arith;
    calm = refl;
    have = have_same stands_for sink_faults first start first [] (lines_of (prefix_of [])).complete start
        (ap (λ (bytes : List ℕ). (lines_of bytes).complete) (sym prefix_of_none))
        (have_none stands_for sink_faults first start);
    kept = none ∙ ap (λ (bytes : List ℕ). kept_of (lines_of bytes).rest) (sym prefix_of_none);
    few = omega arith;
  }

  module _ (now : C) (sink : S) (line : List ℕ) (state : InForce) (taken : ℕ)
      (so-far : ScriptSoFar now sink line state taken) where
    -- the complete lines, and what follows the last of them
    abbrev pub so_far_lines : List (List ℕ)
    so_far_lines = (lines_of (prefix_of so-far.bytes)).complete

    abbrev pub so_far_rest : List ℕ
    so_far_rest = (lines_of (prefix_of so-far.bytes)).rest

    -- a read failed
    pub script_failed : {T : Type 0} (after : C) → taken ≤ max_script → Keeps (left now) (left after)
        → script_faults now ≤ script_faults after → Rises (script_faults now) (script_faults after)
        → Reads {T = T} left script_faults stands_for sink_faults start before after first sink state
        (Err endings.ReadFault)
    script_failed after short still counts rises = record {
      taken = so-far.bytes;
      written = (answers_to start so_far_lines).bytes;
      takes = Consumes-kept (left before) (left now) (left after) so-far.bytes so-far.takes still;
      appends = so-far.have.appends;
      script = omega (arith, so-far.calm);
      sink = omega (arith, so-far.have.calm);
      outcome = (
        omega (arith, so-far.count),
        rises_last (script_faults before) (script_faults now) (script_faults after) (omega (arith, so-far.calm))
            rises,
        refl,
        so-far.have.reached,
      );
    }

    -- the script is too long
    pub script_long : {T : Type 0} → max_script < taken → Reads {T = T} left script_faults stands_for sink_faults start
        before now first sink state (Err endings.ScriptTooLong)
    script_long long = record {
      taken = so-far.bytes;
      written = (answers_to start so_far_lines).bytes;
      takes = so-far.takes;
      appends = so-far.have.appends;
      script = omega (arith, so-far.calm);
      sink = omega (arith, so-far.have.calm);
      outcome = (omega (arith, so-far.count, so-far.most), refl, so-far.have.reached);
    }

    -- one piece more
    module _ (after : C) (buffer piece : List ℕ) (count within : ℕ) (short : taken ≤ max_script)
        (there : count ≤ length buffer) (room : taken + count ≤ max_script + 1)
        (fits : within ≡ count - ((taken + count) - max_script))
        (is : piece ≡ take within buffer) (takes : Consumes (left now) (left after) (take count buffer))
        (calm : script_faults after ≡ script_faults now) where
      -- all bytes that were taken
      abbrev all_bytes : List ℕ
      all_bytes = so-far.bytes ++ take count buffer

      prefix_is : prefix_of so-far.bytes ++ piece ≡ prefix_of all_bytes
      prefix_is = ap (λ (bytes : List ℕ). prefix_of so-far.bytes ++ bytes) is
          ∙ take_piece max_script so-far.bytes buffer count within there (omega (arith, so-far.count))

      -- the lines with those of the piece
      lines_is : lines_of (prefix_of all_bytes) ≡ record {
        complete = so_far_lines
            ++ (lines_of (so_far_rest ++ piece)).complete;
        rest = (lines_of (so_far_rest ++ piece)).rest;
      }
      lines_is = ap lines_of (sym prefix_is) ∙ lines_of-append (prefix_of so-far.bytes) piece

      -- its lines were answered
      pub script_piece : {T : Type 0} (new : S) (line-after : List ℕ) (state-after : InForce) (value : T)
          → IsAnswered stands_for sink_faults sink new state (lines_of (so_far_rest ++ piece)).complete state-after
          (Ok value)
          → line-after ≡ kept_of (lines_of (so_far_rest ++ piece)).rest
          → state-after.session.stamps.changes ≤ state.session.stamps.changes + length piece
          → ScriptSoFar after new line-after state-after (taken + count)
      script_piece new line-after state-after value answered keeps few = record {
        bytes = all_bytes;
        takes = Consumes-trans (left before) (left now) (left after) so-far.bytes (take count buffer) so-far.takes
            takes;
        count = length-append so-far.bytes (take count buffer) ∙ omega (arith, so-far.count, length-take count buffer);
        most = room;
        calm = calm ∙ so-far.calm;
        have = have_same stands_for sink_faults first start new (so_far_lines
            ++ (lines_of (so_far_rest ++ piece)).complete) (lines_of (prefix_of all_bytes)).complete state-after
            (ap (λ (l : Lines). l.complete) (sym lines_is))
            (have_more stands_for sink_faults first start sink new so_far_lines
            (lines_of (so_far_rest ++ piece)).complete state state-after value so-far.have answered);
        kept = keeps ∙ ap (λ (l : Lines). kept_of l.rest) (sym lines_is);
        few = let short : length piece ≤ count = omega (arith, ap length is, length-take within buffer) in
            omega (arith, few, so-far.few);
      }

      -- an answer was cut short
      pub script_piece_stops : {T U : Type 0} (new : S) (reached state-after : InForce) (cause : Cause)
          → IsAnswered {T = T} stands_for sink_faults sink new state (lines_of (so_far_rest ++ piece)).complete reached
          (Err cause)
          → Reads {T = U} left script_faults stands_for sink_faults start before after first new state-after
          (Err (ending_of cause))
      script_piece_stops {U = U} new reached state-after cause answered =
          let cut = have_stop stands_for sink_faults first start {U = ℕ} sink new so_far_lines
          (lines_of (so_far_rest ++ piece)).complete [] (lines_of (prefix_of all_bytes)).complete state reached
          state-after cause
          (append-nil (so_far_lines ++ (lines_of (so_far_rest ++ piece)).complete)
          ∙ ap (λ (l : Lines). l.complete) (sym lines_is)) so-far.have answered in
          record {
            taken = all_bytes;
            written = cut.sends.prefix.0;
            takes = Consumes-trans (left before) (left now) (left after) so-far.bytes (take count buffer) so-far.takes
                takes;
            appends = cut.sends.prefix.1;
            script = omega (arith, so-far.calm, calm);
            sink = cut.sends.counts;
            outcome = stop_outcome U after new state-after all_bytes cut.sends.prefix.0 cause cut.sends.cause
                (inl cut.sends.prefix.2);
          }

    -- the end of the script
    module _ (after : C) (short : taken ≤ max_script) (still : Consumes (left now) (left after) [])
        (calm : script_faults after ≡ script_faults now) (end : IsAtEnd (left now)) where
      -- it was taken whole
      is_whole : IsWhole left before after so-far.bytes
      is_whole = record {
        short = omega (arith, so-far.count);
        end = consumes_all (left before) (left now) (left after)
            so-far.bytes so-far.takes still end;
      }

      -- with all of its lines
      whole_lines : so_far_lines ++ last_line so_far_rest ≡ all_lines (lines_of so-far.bytes)
      whole_lines = ap (λ (bytes : List ℕ). all_lines (lines_of bytes))
          (take_all max_script so-far.bytes (omega (arith, so-far.count)))

      -- the last line was answered
      pub script_end : {T U : Type 0} (new : S) (state-after : InForce) (value : T) (other : U)
          → IsAnswered stands_for sink_faults sink new state (last_line so_far_rest) state-after (Ok value)
          → Reads left script_faults stands_for sink_faults start before after first new state-after (Ok other)
      script_end new state-after value other answered =
          let all = have_same stands_for sink_faults first start new (so_far_lines ++ last_line so_far_rest)
          (all_lines (lines_of so-far.bytes)) state-after whole_lines
          (have_more stands_for sink_faults first start sink new so_far_lines (last_line so_far_rest) state state-after
          value so-far.have answered) in
          record {
            taken = so-far.bytes;
            written = (answers_to start (all_lines (lines_of so-far.bytes))).bytes;
            takes = consumes_still (left before) (left now) (left after) so-far.bytes so-far.takes still;
            appends = all.appends;
            script = omega (arith, so-far.calm, calm);
            sink = omega (arith, all.calm);
            outcome = (is_whole, refl, all.reached);
          }

      -- its answer was cut short
      pub script_end_stops : {T U : Type 0} (new : S) (reached state-after : InForce) (cause : Cause)
          → IsAnswered {T = T} stands_for sink_faults sink new state (last_line so_far_rest) reached (Err cause)
          → Reads {T = U} left script_faults stands_for sink_faults start before after first new state-after
          (Err (ending_of cause))
      script_end_stops {U = U} new reached state-after cause answered =
          let cut = have_stop stands_for sink_faults first start {U = ℕ} sink new so_far_lines (last_line so_far_rest)
          [] (all_lines (lines_of so-far.bytes)) state reached state-after cause
          (append-nil (so_far_lines ++ last_line so_far_rest) ∙ whole_lines) so-far.have answered in
          record {
            taken = so-far.bytes;
            written = cut.sends.prefix.0;
            takes = consumes_still (left before) (left now) (left after) so-far.bytes so-far.takes still;
            appends = cut.sends.prefix.1;
            script = omega (arith, so-far.calm, calm);
            sink = cut.sends.counts;
            outcome = stop_outcome U after new state-after so-far.bytes cut.sends.prefix.0 cause cut.sends.cause
                (inr (is_whole, cut.sends.prefix.2));
          }
