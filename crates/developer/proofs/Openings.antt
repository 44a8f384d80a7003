-- What is called for before the script, of a file that was read.
use Rattle.std.proofs.Common.{◌≡◌, ◌≢◌, ℕ, ◌^◌, ◌<◌, ◌≤◌, List, length, Option, None, Some, Result, Ok, Err, inl, inr}
use Rattle.std.proofs.Common.{refl, sym, ◌∙◌, ap, subst}
use Rattle.std.specs.Prelude.{IfSome, IsErrOf, IsOk}
use Rattle.std.proofs.lemmas.Bool.{le-ltb, lt-ltb}
use Rattle.raw_io.specs.Outside.{Rises}
use Rattle.raw_io.specs.declared.whole.ReadFault.{ReadFault}
use Rattle.raw_io.specs.declared.whole.ReadFault.TheVariants as reads
use Rattle.text_line.specs.Chain.{and_then}
use Rattle.dng_tags.specs.Frame.{frame_of}
use Rattle.dng_tags.specs.Raw.{undecoded}
use Rattle.dng_tags.specs.declared.record.Frame.{Frame}
use Rattle.tag_rules.specs.declared.faults.FrameFault.{FrameFault}
use Rattle.tag_rules.specs.declared.faults.FrameFault.TheVariants.{TooLong}
use Rattle.tag_rules.specs.declared.faults.FrameFault.TheVariants as frames
use Rattle.dev_settings.specs.declared.settings.Settings.{Settings}
use Rattle.developer.specs.Opening.{FrameFile, Opening, Refusal, file_frame, frame_as, if_decoded, opened_by}
use Rattle.developer.specs.Opening.{opened_for, opened_named, opened_next, opened_under, refused_frame}
use Rattle.developer.specs.Opening.{refused_settings, told_frame}
use Rattle.developer.specs.Sessions.{InForce}
use Rattle.developer.specs.inner.Opens.{Opens, OpensFiles, open_fault, refused_or_memory, stopped}
use Rattle.developer.specs.inner.Planning.{PlansUnder, seen}
use Rattle.developer.specs.SettingsFile.{Refused, file_settings}
use Rattle.developer.specs.Words.{Options}
use Rattle.developer.specs.declared.opening.OpenFault.{OpenFault}
use Rattle.developer.specs.declared.opening.OpenFault.TheVariants as openings
use Rattle.developer.specs.declared.settings.Planned.{Planned}
use Rattle.developer.specs.declared.settings.SettingsStop.{SettingsStop}
use Rattle.developer.specs.declared.settings.SettingsStop.TheVariants as stops
use Rattle.std.proofs.lemmas.Option.{IfSome_then}
use Rattle.raw_io.proofs.Pieces.{rises_last}

-- a file that is too long
too_long : (bytes : List ℕ) → 2 ^ 28 < length bytes → file_frame bytes ≡ Err TooLong
unfolding file_frame
too_long bytes long = rw (lt-ltb (2 ^ 28) (length bytes) long) refl

-- a file that isn't
pub frame_of_file : (bytes : List ℕ) → length bytes ≤ 2 ^ 28
    → file_frame bytes ≡ and_then (frame_of bytes) (λ frame. if_decoded frame (undecoded bytes frame))
unfolding file_frame
frame_of_file bytes short = rw (le-ltb (2 ^ 28) (length bytes) short) refl

-- a file whose frame is refused, before its segments are looked at
pub file_refused : (bytes : List ℕ) (fault : FrameFault) → length bytes ≤ 2 ^ 28 → frame_of bytes ≡ Err fault
    → file_frame bytes ≡ Err fault
file_refused bytes fault short is = frame_of_file bytes short
    ∙ ap (λ (r : Result Frame FrameFault). and_then r (λ frame. if_decoded frame (undecoded bytes frame))) is

-- a file with a frame, by its segments
pub file_decoded : (bytes : List ℕ) (frame : Frame) (refusal : Option FrameFault) → length bytes ≤ 2 ^ 28
    → frame_of bytes ≡ Ok frame → undecoded bytes frame ≡ refusal → file_frame bytes ≡ if_decoded frame refusal
file_decoded bytes frame refusal short is decoded =
    frame_of_file bytes short
    ∙ (ap (λ (r : Result Frame FrameFault). and_then r (λ f. if_decoded f (undecoded bytes f))) is
    ∙ ap (if_decoded frame) decoded)

-- what a file that is told calls for
called_frame : (contents : Option (List ℕ)) (frame : Result FrameFile Refusal)
    → IfSome contents (λ bytes. frame_as bytes (file_frame bytes) ≡ frame)
    → IfSome (told_frame contents) (λ o. o ≡ frame)
called_frame None frame h = tt
called_frame (Some bytes) frame h = h

-- a frame that is refused
next_refused : (chosen : Options) (o : Option (Result FrameFile Refusal)) (refusal : Refusal)
    (told : List ℕ → Option (List ℕ)) → IfSome o (λ f. f ≡ Err refusal) → IfSome (opened_next chosen o told)
    (λ x. x ≡ Err refusal)
next_refused chosen None refusal told h = tt
next_refused chosen (Some f) refusal told h =
    subst (λ (f : Result FrameFile Refusal). IfSome (opened_next chosen (Some f) told) (λ x. x ≡ Err refusal)) (sym h)
    refl

-- a frame that is accepted
next_accepted : (chosen : Options) (o : Option (Result FrameFile Refusal)) (file : FrameFile)
    (told : List ℕ → Option (List ℕ)) (P : Opening → Type 0) → IfSome o (λ f. f ≡ Ok file)
    → IfSome (opened_named chosen file chosen.settings told) P → IfSome (opened_next chosen o told) P
next_accepted chosen None file told P h p = tt
next_accepted chosen (Some f) file told P h p =
    subst (λ (f : Result FrameFile Refusal). IfSome (opened_next chosen (Some f) told) P) (sym h) p

-- settings of a file, where it is told
under_wanted : (chosen : Options) (file : FrameFile) (contents : Option (List ℕ)) (wanted : Result Settings Refused)
    → IfSome contents (λ bytes. file_settings file.frame bytes ≡ wanted)
    → IfSome (opened_under chosen file contents) (λ o. o ≡ opened_by chosen file wanted)
under_wanted chosen file None wanted h = tt
under_wanted chosen file (Some bytes) wanted h = ap (opened_by chosen file) h

module _ (told : List ℕ → Option (List ℕ)) (before after : List ℕ → ℕ) (chosen : Options) (file : FrameFile) where
  -- a frame with settings
  opened_as : (name : Option (List ℕ)) (answer : Planned) → PlansUnder file.frame told before after name (Ok answer)
      → IfSome (opened_named chosen file name told) (λ o. o ≡ opened_by chosen file (Ok answer.settings))
  opened_as None answer h = ap (opened_by chosen file) h.0
  opened_as (Some name) answer h = under_wanted chosen file (told name) (Ok answer.settings) h.0

  pub settings_opened : (answer : Planned) → PlansUnder file.frame told before after chosen.settings (Ok answer)
      → IfSome (opened_named chosen file chosen.settings told) (λ o. o ≡ opened_by chosen file (Ok answer.settings))
  settings_opened answer h = opened_as chosen.settings answer h

  -- a frame without
  refused_as : (name : Option (List ℕ)) (refusal : _)
      → PlansUnder file.frame told before after name (Err (stops.Refused refusal))
      → IfSome (opened_named chosen file name told) (λ o. o ≡ Err (refused_settings (seen refusal)))
  refused_as None refusal h = cc
  refused_as (Some name) refusal h = under_wanted chosen file (told name) (Err (seen refusal)) h

  unread_as : (name : Option (List ℕ)) → PlansUnder file.frame told before after name (Err stops.Unread)
      → (other : List ℕ) × (name ≡ Some other) × Rises (before other) (after other)
  unread_as None h = absurd h
  unread_as (Some name) h = (name, refl, h)

  pub settings_stop : (stop : SettingsStop) → undecoded file.bytes file.frame ≡ None
      → PlansUnder file.frame told before after chosen.settings (Err stop)
      → Opens told before after chosen file (Err (stopped stop))
  settings_stop (stops.Refused refusal) decoded h = (decoded, refused_as chosen.settings refusal h)
  settings_stop stops.Unread decoded h = (decoded, unread_as chosen.settings h)
  settings_stop stops.Memory decoded h = tt

module _ (told : List ℕ → Option (List ℕ)) (before after : List ℕ → ℕ) (chosen : Options) where
  -- a failed read of the frame's file
  pub file_unread : {T : Type 0} (fault : ReadFault)
      → (IsErrOf {T = T} (Err fault) reads.TooLong → IfSome (told chosen.frame) (λ bytes. 2 ^ 28 < length bytes))
      → (IsErrOf {T = T} (Err fault) reads.Failed → Rises (before chosen.frame) (after chosen.frame))
      → OpensFiles told before after chosen (Err (open_fault fault))
  file_unread reads.TooLong long failed =
      next_refused chosen (told_frame (told chosen.frame)) (refused_frame TooLong) told
      (called_frame (told chosen.frame) (Err (refused_frame TooLong))
      (IfSome_then (told chosen.frame) {P = λ bytes. 2 ^ 28 < length bytes}
      {Q = λ bytes. frame_as bytes (file_frame bytes) ≡ Err (refused_frame TooLong)}
      (long refl) (λ bytes h. ap (frame_as bytes) (too_long bytes h))))
  file_unread reads.Failed long failed = inl (failed refl)
  file_unread reads.Memory long failed = tt

  module _ (bytes : List ℕ) (read-as : IfSome (told chosen.frame) (λ all. bytes ≡ all)) (short : length bytes ≤ 2 ^ 28)
    where
      -- a file that was read
      file_read : (frame : Result Frame FrameFault) → file_frame bytes ≡ frame
          → IfSome (told_frame (told chosen.frame)) (λ o. o ≡ frame_as bytes frame)
      file_read frame is =
          called_frame (told chosen.frame) (frame_as bytes frame)
          (IfSome_then (told chosen.frame) {P = λ (all : List ℕ). bytes ≡ all}
          {Q = λ all. frame_as all (file_frame all) ≡ frame_as bytes frame} read-as
          (λ all h. subst (λ (b : List ℕ). frame_as b (file_frame b) ≡ frame_as bytes frame) h
          (ap (frame_as bytes) is)))

      -- a file that is refused, unless there was no memory
      pub file_refuses : (fault : FrameFault) → (fault ≢ frames.Memory → frame_of bytes ≡ Err fault)
          → OpensFiles told before after chosen (Err (refused_or_memory fault))
      file_refuses frames.Memory is = tt
      file_refuses fault is = next_refused chosen (told_frame (told chosen.frame)) (refused_frame fault) told
          (file_read (Err fault) (file_refused bytes fault short (is (λ e. cc))))

      module _ (frame : Frame) (is-frame : frame_of bytes ≡ Ok frame) (mid : List ℕ → ℕ) (counts : (name : List ℕ)
          → before name ≤ mid name) where
        -- a frame that is accepted
        accepted : undecoded bytes frame ≡ None
            → IfSome (told_frame (told chosen.frame)) (λ o. o ≡ Ok (record { bytes = bytes; frame = frame }))
        accepted decoded = file_read (Ok frame) (file_decoded bytes frame None short is-frame decoded)

        -- and is opened
        pub opens_ok : (now : InForce) → Opens told mid after chosen (record { bytes = bytes; frame = frame }) (Ok now)
            → IfSome (opened_for (Some chosen) told) (λ o. o ≡ Ok now)
        opens_ok now h = next_accepted chosen (told_frame (told chosen.frame)) (record { bytes = bytes; frame = frame })
            told (λ o. o ≡ Ok now) (accepted h.0) h.1

        -- or isn't
        pub opens_err : (fault : OpenFault) → Opens told mid after chosen (record { bytes = bytes; frame = frame })
            (Err fault) → OpensFiles told before after chosen (Err fault)
        opens_err (openings.Frame fault) h = next_refused chosen (told_frame (told chosen.frame)) (refused_frame fault)
            told (file_read (Err fault) (file_decoded bytes frame (Some fault) short is-frame h))
        opens_err (openings.Settings refusal) h =
            next_accepted chosen (told_frame (told chosen.frame)) (record { bytes = bytes; frame = frame }) told
            (λ o. o ≡ Err (refused_settings (seen refusal))) (accepted h.0) h.1
        opens_err openings.Unread h =
            inr (
              h.1.0,
              h.1.1,
              rises_last (before h.1.0) (mid h.1.0) (after h.1.0) (counts h.1.0) h.1.2,
              IfSome_then (told_frame (told chosen.frame)) {P = λ o. o ≡ Ok (record { bytes = bytes; frame = frame })}
                  {Q = IsOk} (accepted h.0)
                  (λ o e. subst IsOk (sym e) refl),
            )
        opens_err openings.Memory h = tt

        -- it is or it isn't
        pub opens_either : (result : Result InForce OpenFault)
            → Opens told mid after chosen (record { bytes = bytes; frame = frame }) result
            → OpensFiles told before after chosen result
        opens_either (Ok now) h = opens_ok now h
        opens_either (Err fault) h = opens_err fault h
