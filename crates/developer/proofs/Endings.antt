-- What each way for a run to end gives of its promise.
use Rattle.std.proofs.Common.{◌≡◌, ℕ, ◌+◌, ◌-◌, ◌<◌, ◌≤◌, min, inl, inr, List, [], ◌∷◌, ◌++◌, length, take, Option}
use Rattle.std.proofs.Common.{None, Some, Result, Ok, Err, refl, sym, ◌∙◌, ap, subst, append_assoc, arith}
use Rattle.std.proofs.Common.{length-append}
use Rattle.std.specs.Prelude.{IfOk, IfSome, IsOk}
use Rattle.std.proofs.lemmas.Bool.{cases_lt, lt-ltb, le-ltb}
use Rattle.std.proofs.lemmas.List.{append-nil, take_all, take-append-le}
use Rattle.std.specs.Io.{StartsWith}
use Rattle.std.specs.Io.KnownBytes.{Consumes}
use Rattle.std.proofs.Transfers.{starts_with_of_append}
use Rattle.region_session.specs.declared.tally.Tally.{Tally}
use Rattle.dev_settings.specs.Lines.{Lines, all_lines, last_line, lines_of}
use Rattle.dev_settings.proofs.LineLaws.{lines_of-append}
use Rattle.developer.specs.Answers.{Answer}
use Rattle.developer.specs.inner.Closing.{IsClosed, IsIdle}
use Rattle.developer.specs.Opening.{Opening}
use Rattle.developer.specs.inner.Reading.{IsPrefixOfAnswers, Outcome, complete_answers, whole_answers}
use Rattle.developer.specs.Replies.{answer_of}
use Rattle.developer.specs.Run.{Call, Completes, Ends, IsAnswered, IsOpened, IsPrefix, IsTallied, Promises, RisesBy}
use Rattle.developer.specs.Run.{Stays, Tallies, called, opening}
use Rattle.developer.specs.inner.Endings.{status_after, status_of}
use Rattle.developer.specs.Sessions.{InForce}
use Rattle.developer.specs.Transcript.{Transcript, answers_to, by_answers, by_opening, by_script, by_told_script}
use Rattle.developer.specs.Transcript.{max_script, session_after}
use Rattle.developer.specs.Words.{Options, options}
use Rattle.developer.specs.declared.status.Ending.{Ending}
use Rattle.developer.specs.declared.status.Ending.TheVariants as endings
use Rattle.developer.specs.declared.status.Status.{Status}
use Rattle.developer.specs.declared.status.Status.TheVariants.{Done, Usage, ReadFault, WriteFault, Memory}
use Rattle.developer.specs.declared.status.Status.TheVariants.{ScriptTooLong}
use Rattle.developer.specs.declared.status.Status.TheVariants as statuses
use Rattle.developer.proofs.Answering.{answers_prefix}
use Rattle.std.proofs.lemmas.Option.{IfSome_then}
use Rattle.developer.proofs.ScriptLines.{take_both}

-- a script that isn't too long
script_done : (now : InForce) (script : List ℕ) → length script ≤ max_script
    → by_script now script ≡ by_answers (answers_to now (all_lines (lines_of script))) Done
unfolding by_script
script_done now script short = rw (le-ltb max_script (length script) short) refl

-- a script that is too long
script_long : (now : InForce) (script : List ℕ) → max_script < length script
    → by_script now script ≡ by_answers (answers_to now (lines_of (take max_script script)).complete) ScriptTooLong
unfolding by_script
script_long now script long = rw (lt-ltb max_script (length script) long) refl

-- this is called for, where the script is told
abbrev pub Calls : InForce → Option (List ℕ) → Transcript → Type 0
Calls now script e = IfSome (by_told_script now script) (λ t. t ≡ e)

-- what a script that was read whole calls for
calls_done : (now : InForce) (script left : Option (List ℕ)) (taken : List ℕ) → Consumes script left taken
    → IfSome script (λ _. left ≡ Some []) → length taken ≤ max_script
    → Calls now script (by_answers (whole_answers now taken) Done)
calls_done now None left taken t end short = tt
calls_done now (Some script) None taken is end short = absurd is
calls_done now (Some script) (Some rest) taken is end short =
    let none : rest ≡ [] = cc end in
    let same : script ≡ taken = is ∙ (ap (λ (r : List ℕ). taken ++ r) none ∙ append-nil taken) in
    script_done now script (subst (λ (b : List ℕ). length b ≤ max_script) (sym same) short)
    ∙ ap (λ (b : List ℕ). by_answers (whole_answers now b) Done) same

-- what a script that is too long calls for
calls_long : (now : InForce) (script left : Option (List ℕ)) (taken : List ℕ) → Consumes script left taken
    → length taken ≡ max_script + 1
    → Calls now script (by_answers (complete_answers now taken) ScriptTooLong)
calls_long now None left taken t long = tt
calls_long now (Some script) None taken is long = absurd is
calls_long now (Some script) (Some rest) taken is long =
    let whole : length script ≡ length taken + length rest = ap length is ∙ length-append taken rest in
    let room : max_script ≤ length taken = omega arith in
    let prefix : take max_script script ≡ take max_script taken = ap (take max_script) is
    ∙ take-append-le max_script taken rest room in
    script_long now script (omega arith)
    ∙ ap (λ (b : List ℕ). by_answers (answers_to now (lines_of b).complete) ScriptTooLong) prefix

-- a prefix of the answers to the complete lines of a script's prefix is one of the answers to the lines of the script
prefix_of_script : (now : InForce) (prefix bytes written : List ℕ)
    → StartsWith (answers_to now (lines_of prefix).complete).bytes written
    → (last : List (List ℕ)) → StartsWith (answers_to now ((lines_of (prefix ++ bytes)).complete ++ last)).bytes written
prefix_of_script now prefix bytes written within last =
    let more : List (List ℕ) = (lines_of ((lines_of prefix).rest ++ bytes)).complete in
    let lines : (lines_of (prefix ++ bytes)).complete ++ last ≡ (lines_of prefix).complete ++ (more ++ last) =
    ap (λ (l : Lines). l.complete ++ last) (lines_of-append prefix bytes)
    ∙ append_assoc (lines_of prefix).complete more last in
    subst (λ (l : List (List ℕ)). StartsWith (answers_to now l).bytes written) (sym lines)
    (answers_prefix answer_of now (lines_of prefix).complete (more ++ last) written within)

-- a prefix of the answers to the complete lines that were taken is one of what is called for
complete_prefix : (now : InForce) (script left : Option (List ℕ)) (taken written : List ℕ) → Consumes script left taken
    → StartsWith (complete_answers now taken).bytes written
    → IfSome (by_told_script now script) (λ e. StartsWith e.bytes written)
complete_prefix now None left taken written t within = tt
complete_prefix now (Some script) None taken written is within = absurd is
complete_prefix now (Some script) (Some rest) taken written is within =
    let lengths : length script ≡ length taken + length rest = ap length is ∙ length-append taken rest in
    elim (cases_lt max_script (length script)) [
      | inl long ↦
          let n : ℕ = min (length rest) (max_script - min (length (take max_script taken)) max_script) in
          let prefix : take max_script taken ++ take n rest ≡ take max_script script =
          take_both max_script taken rest (take max_script taken) n refl refl ∙ ap (take max_script) (sym is) in
          let lines : List ℕ → List (List ℕ) = λ b. (lines_of b).complete in
          subst (λ (e : Transcript). StartsWith e.bytes written) (sym (script_long now script long))
          (subst (λ (b : List (List ℕ)). StartsWith (answers_to now b).bytes written)
          (append-nil (lines (take max_script taken ++ take n rest)) ∙ ap lines prefix)
          (prefix_of_script now (take max_script taken) (take n rest) written within []))
      | inr short ↦
          let whole : take max_script taken ≡ taken = take_all max_script taken (omega arith) in
          subst (λ (e : Transcript). StartsWith e.bytes written) (sym (script_done now script short))
          (subst (λ (b : List ℕ). StartsWith (answers_to now (all_lines (lines_of b))).bytes written) (sym is)
          (prefix_of_script now taken rest written
          (subst (λ (b : List ℕ). StartsWith (answers_to now (lines_of b).complete).bytes written) whole within)
          (last_line (lines_of (taken ++ rest)).rest)))
    ]

-- the same of the answers to all lines of a script that was taken whole
whole_prefix : (now : InForce) (script left : Option (List ℕ)) (taken written : List ℕ) → Consumes script left taken
    → IfSome script (λ _. left ≡ Some []) → length taken ≤ max_script
    → StartsWith (whole_answers now taken).bytes written
    → IfSome (by_told_script now script) (λ e. StartsWith e.bytes written)
whole_prefix now script left taken written t end short within =
    IfSome_then (by_told_script now script) {P = λ e. e ≡ by_answers (whole_answers now taken) Done}
    {Q = λ e. StartsWith e.bytes written} (calls_done now script left taken t end short)
    (λ e is. subst (λ (t : Transcript). StartsWith t.bytes written) (sym is) within)

-- what holds of each value holds of the value, if there is one
if_some_all : {T : Type 0} (o : Option T) (P : T → Type 0) → ((x : T) → P x) → IfSome o P
if_some_all None P f = tt
if_some_all (Some x) P f = f x

-- nothing is a prefix of what is called for
pub nothing_prefix : (call : Call) → call.written ≡ [] → IsPrefix call
nothing_prefix call none = if_some_all (called call) (λ e. StartsWith e.bytes call.written)
    (λ e. starts_with_of_append e.bytes call.written e.bytes (ap (λ (bytes : List ℕ). bytes ++ e.bytes) (sym none)))

-- where nothing is told of the frame, or it was opened, what is called for is by its script
by_frame : (o : Option Opening) (now : InForce) (script : Option (List ℕ)) (P : Transcript → Type 0)
    → IfSome o (λ f. f ≡ Ok now) → IfSome (by_told_script now script) P → IfSome (by_opening o script) P
by_frame None now script P opens p = tt
by_frame (Some f) now script P opens p = subst (λ (f : Opening). IfSome (by_opening (Some f) script) P) (sym opens) p

-- a refusal before the script is what is called for
refused_called : (o : Option Opening) (script : Option (List ℕ)) (written : List ℕ) (status : Status)
    → IfSome o (λ f. f ≡ Err (record { bytes = written; status = status }))
    → IfSome (by_opening o script) (λ e. (e.status ≡ status) × (written ≡ e.bytes))
refused_called None script written status refused = tt
refused_called (Some f) script written status refused =
    subst (λ (f : Opening). IfSome (by_opening (Some f) script) (λ e. (e.status ≡ status) × (written ≡ e.bytes)))
    (sym refused) (refl, refl)

-- a run that ends as its status says ends for no other cause
pub complete : (call : Call) (status : Status) → Ends call status → Completes call status
complete call Done e calm = inl e.0
complete call Usage e calm = inl (refused_called (opening call) call.before.left call.written Usage e.1)
complete call statuses.Frame e calm =
    inl (refused_called (opening call) call.before.left call.written statuses.Frame e.0)
complete call statuses.Settings e calm =
    inl (refused_called (opening call) call.before.left call.written statuses.Settings e.0)
complete call ScriptTooLong e calm = inl e.0
complete call ReadFault e calm = absurd (elim e.3.2 [
  | inl (inl r) ↦ calm.files e.3.0.frame r
  | inl (inr u) ↦ calm.files u.0 u.2
  | inr r ↦ calm.script r.0
])
complete call WriteFault e calm = absurd (calm.sink e.0)
complete call Memory e calm = inr (refl, e)

-- the tally after lines that were answered, where the session did nothing before them
session_tally : (now state : InForce) (lines : List (List ℕ)) (before after : Tally)
    → state ≡ (answers_to now lines).state → RisesBy state.session before after
    → (IsIdle state.session → after ≡ before) → IsIdle now.session
    → IsTallied (session_after now lines) before after
session_tally now state [] before after reached rises still idle =
    still (subst (λ (s : InForce). IsIdle s.session) (sym reached) idle)
session_tally now state (line ∷ lines) before after reached rises still idle =
    subst (λ (s : InForce). RisesBy s.session before after) reached rises

-- no line was taken
none_taken : (now : InForce) (taken : List ℕ) → taken ≡ []
    → complete_answers now taken ≡ record { bytes = []; state = now }
none_taken now taken none = ap (λ (b : List ℕ). answers_to now (lines_of b).complete) (ap (take max_script) none
    ∙ take_all max_script [] (omega arith))

-- the tally where the frame wasn't opened
if_ok_all : (o : Opening) (P : InForce → Type 0) → ((now : InForce) → P now) → IfOk o P
if_ok_all (Ok now) P f = f now
if_ok_all (Err refusal) P f = tt

-- before the script nothing is answered
pub nothing_answered : (call : Call) → call.written ≡ [] → call.taken ≡ []
    → IfSome (opening call) (λ o. IfOk o (IsAnswered call))
nothing_answered call none untaken =
    if_some_all (opening call) (λ o. IfOk o (IsAnswered call))
    (λ o. if_ok_all o (IsAnswered call) (λ now. none
    ∙ sym (ap (λ (b : List ℕ). (answers_to now (lines_of b).complete).bytes) untaken)))

no_session : (now : InForce) (taken : List ℕ) (before after : Tally) → taken ≡ [] → after ≡ before
    → IsTallied (session_after now (lines_of taken).complete) before after
no_session now taken before after none same =
    subst (λ (b : List ℕ). IsTallied (session_after now (lines_of b).complete) before after) (sym none) same

refused_tallies : (call : Call) (ending : Ending) → call.taken ≡ [] → call.after.tally ≡ call.before.tally
    → Ends call (status_of ending) → Tallies call (status_of ending)
refused_tallies call endings.Usage none same e = same
refused_tallies call endings.Frame none same e = same
refused_tallies call endings.Settings none same e = same
refused_tallies call endings.ReadFault none same e =
    let P : InForce → Type 0 = λ now. IsTallied (session_after now (lines_of call.taken).complete) call.before.tally
    call.after.tally in (
      λ _. same,
      if_some_all (opening call) (λ o. IfOk o P)
          (λ o. if_ok_all o P (λ now. no_session now call.taken call.before.tally call.after.tally none same)),
    )
refused_tallies call endings.WriteFault none same e = same
refused_tallies call endings.Memory none same e = same
refused_tallies call endings.ScriptTooLong none same e = absurd (omega (arith, e.1, ap length none))

-- what a run promises that ended before the script
pub refused_promises : (call : Call) (status : Status) (ending : Ending) → status ≡ status_of ending → call.taken ≡ []
    → call.after.tally ≡ call.before.tally → Stays call → Ends call (status_of ending) → Promises call status
refused_promises call status ending is none same stays ends =
    subst (Promises call) (sym is) (record {
      ends = ends;
      tallies = refused_tallies call ending none same ends;
      completes = complete call (status_of ending) ends;
      stays = stays;
    })

-- a run over an opened frame, and what was in force at its end
module _ {C S : Type 0} (left : C → Option (List ℕ)) (script_faults : C → ℕ) (sink_faults : S → ℕ) (before after : C)
    (first last : S) (words : List (List ℕ)) (told told_after : List ℕ → Option (List ℕ)) (files files_after : List ℕ
    → ℕ) (tally tally_after : Tally)
    (written taken : List ℕ) where
  -- the call of it
  abbrev pub call_of : Call
  call_of = record {
    words = words;
    before = record {
      told = told;
      file_faults = files;
      left = left before;
      script_faults = script_faults before;
      sink_faults = sink_faults first;
      tally = tally;
    };
    after = record {
      told = told_after;
      file_faults = files_after;
      left = left after;
      script_faults = script_faults after;
      sink_faults = sink_faults last;
      tally = tally_after;
    };
    written = written;
    taken = taken;
  }

  module _ (now state : InForce) (chosen : Options) (asks : options words ≡ Some chosen)
      (opens : IfSome (opening call_of) (λ o. o ≡ Ok now)) (takes : Consumes (left before) (left after) taken) where
    -- it was opened
    frame_opened : IsOpened call_of
    frame_opened = IfSome_then (opening call_of) {P = λ o. o ≡ Ok now} {Q = IsOk} opens (λ o e. subst IsOk (sym e) refl)

    -- what holds of what is in force at first holds of what the call opens
    frame_holds : (P : InForce → Type 0) → P now → IfSome (opening call_of) (λ o. IfOk o P)
    frame_holds P holds = IfSome_then (opening call_of) {P = λ o. o ≡ Ok now} {Q = λ o. IfOk o P} opens
        (λ o e. subst (λ (f : Opening). IfOk f P) (sym e) holds)

    -- what holds of this holds of what is called for
    frame_calls : (e : Transcript) (P : Transcript → Type 0) → Calls now (left before) e → P e
        → IfSome (called call_of) P
    frame_calls e P calls holds =
        by_frame (opening call_of) now (left before) P opens
        (IfSome_then (by_told_script now (left before)) {P = λ t. t ≡ e} {Q = P} calls (λ t is. subst P (sym is) holds))

    -- a prefix of what is called for was written
    frame_prefix : IsPrefixOfAnswers left before after now taken written → IsPrefix call_of
    frame_prefix (inl within) =
        by_frame (opening call_of) now (left before) (λ e. StartsWith e.bytes written) opens
        (complete_prefix now (left before) (left after) taken written takes within)
    frame_prefix (inr (whole, within)) =
        by_frame (opening call_of) now (left before) (λ e. StartsWith e.bytes written) opens
        (whole_prefix now (left before) (left after) taken written takes whole.end whole.short within)

    -- how it ended
    frame_ends : {T : Type 0} (result : Result T Ending) → Outcome left script_faults sink_faults now before after first
        last state taken written result → Ends call_of (status_after result)
    frame_ends (Ok value) (whole, bytes, reached) = (
      frame_calls (by_answers (whole_answers now taken) Done) (λ e. (e.status ≡ Done) × (written ≡ e.bytes))
          (calls_done now (left before) (left after) taken takes whole.end whole.short) (refl, bytes),
      whole.end,
    )
    frame_ends (Err endings.ScriptTooLong) (long, bytes, reached) = (
      frame_calls (by_answers (complete_answers now taken) ScriptTooLong) (λ e. (e.status ≡ ScriptTooLong)
          × (written ≡ e.bytes)) (calls_long now (left before) (left after) taken takes long) (refl, bytes),
      omega (arith, long),
    )
    frame_ends (Err endings.ReadFault) (short, rises, bytes, reached) = (
      short,
      λ none. bytes ∙ ap (λ (a : Answer InForce). a.bytes) (none_taken now taken none),
      frame_holds (IsAnswered call_of) (bytes ∙ ap (λ (b : List ℕ). (answers_to now (lines_of b).complete).bytes)
          (take_all max_script taken short)),
      (chosen, asks, inr (rises, frame_opened)),
    )
    frame_ends (Err endings.WriteFault) (rises, prefix) = (rises, frame_prefix prefix)
    frame_ends (Err endings.Memory) prefix = frame_prefix prefix
    frame_ends (Err endings.Usage) none = absurd none
    frame_ends (Err endings.Frame) none = absurd none
    frame_ends (Err endings.Settings) none = absurd none

    -- and the tally
    frame_tallies : {T : Type 0} (result : Result T Ending) → Outcome left script_faults sink_faults now before after
        first last state taken written result → IsClosed result state.session tally tally_after → IsIdle now.session
        → Tallies call_of (status_after result)
    frame_tallies (Ok value) (whole, bytes, reached) rises idle =
        frame_calls (by_answers (whole_answers now taken) Done) (λ e. IsTallied e.session tally tally_after)
        (calls_done now (left before) (left after) taken takes whole.end whole.short)
        (subst (λ (s : InForce). RisesBy s.session tally tally_after) reached rises)
    frame_tallies (Err endings.ScriptTooLong) (long, bytes, reached) rises idle =
        frame_calls (by_answers (complete_answers now taken) ScriptTooLong) (λ e. IsTallied e.session tally tally_after)
        (calls_long now (left before) (left after) taken takes long)
        (subst (λ (s : InForce). RisesBy s.session tally tally_after) reached rises)
    frame_tallies (Err endings.ReadFault) (short, rises, bytes, reached) (raised, still) idle = (
      λ none. still (subst (λ (s : InForce). IsIdle s.session)
          (sym (reached ∙ ap (λ (a : Answer InForce). a.state) (none_taken now taken none))) idle),
      frame_holds (λ at. IsTallied (session_after at (lines_of taken).complete) tally tally_after)
          (session_tally now state (lines_of taken).complete tally tally_after (reached
          ∙ ap (λ (b : List ℕ). (answers_to now (lines_of b).complete).state) (take_all max_script taken short))
          raised still idle),
    )
    frame_tallies (Err endings.WriteFault) out same idle = same
    frame_tallies (Err endings.Memory) out same idle = same
    frame_tallies (Err endings.Usage) none same idle = absurd none
    frame_tallies (Err endings.Frame) none same idle = absurd none
    frame_tallies (Err endings.Settings) none same idle = absurd none

    -- what it promises
    pub frame_promises : {T : Type 0} (status : Status) (result : Result T Ending) → status ≡ status_after result
        → Outcome left script_faults sink_faults now before after first last state taken written result
        → IsClosed result state.session tally tally_after → IsIdle now.session → Stays call_of → Promises call_of status
    frame_promises status result is outcome closed idle stays =
        let ends = frame_ends result outcome in
        subst (Promises call_of) (sym is)
        (record {
          ends = ends;
          tallies = frame_tallies result outcome closed idle;
          completes = complete call_of (status_after result) ends;
          stays = stays;
        })
