-- The walk over the opcodes of a list: what was read so far, and what the rest of the bytes tells.
use Rattle.std.proofs.Common.{All, ◌≡◌, ℕ, suc, ◌+◌, ◌-◌, ◌<◌, ◌≤◌, List, [], ◌∷◌, ◌++◌, None, Some, Result, Ok, Err}
use Rattle.std.proofs.Common.{append_assoc, append-nil, arith, drop, length, length-append, refl, sym, ◌∙◌}
use Rattle.std.proofs.lemmas.List.Elements.{All-append}
use Rattle.opcode_list.specs.Cuts.{RawOpcode, cut_opcodes, first_opcode}
use Rattle.text_line.specs.Chain.{and_then}
use Rattle.opcode_list.specs.Lists.{opcode_of, opcodes_from}
use Rattle.opcode_list.specs.Params.{CanRunIn}
use Rattle.opcode_list.specs.declared.opcode.Opcode.{Opcode}
use Rattle.opcode_list.specs.declared.opcode.OpcodeFault.{OpcodeFault}
use Rattle.opcode_list.specs.declared.opcode.OpcodeFault.TheVariants.{Truncated}

-- opcodes before those of an answer
abbrev pub after : List Opcode → Result (List Opcode) OpcodeFault → Result (List Opcode) OpcodeFault
after before (Ok more) = Ok (before ++ more)
after before (Err fault) = Err fault

-- the opcodes of a list from an index on, of so many in all, which begin the bytes
abbrev pub told_from : ℕ → ℕ → ℕ → List ℕ → Result (List Opcode) OpcodeFault
told_from list count index bytes = opcodes_from list index (cut_opcodes (count - index) bytes)

-- the opcodes of a list were read up to an index, and the rest of the bytes is left
pub record HasRead (list count : ℕ) (bytes : List ℕ) (index : ℕ) (rest : List ℕ) (opcodes : List Opcode) : Type 0 where
  pub walk : after opcodes (told_from list count index rest) ≡ opcodes_from list 0 (cut_opcodes count bytes)
  pub can_run : All (CanRunIn list) opcodes
  pub counted : length opcodes ≡ index

-- one more opcode before those of an answer
after-and_then :
    (before : List Opcode) (opcode : Opcode) (rest : Result (List Opcode) OpcodeFault) →
    after before (and_then rest (λ more. Ok (opcode ∷ more))) ≡ after (before ++ opcode ∷ []) rest
after-and_then before opcode (Ok more) = rw append_assoc refl
after-and_then before opcode (Err fault) = refl

-- none before those of an answer
after-nil : (answer : Result (List Opcode) OpcodeFault) → after [] answer ≡ answer
after-nil (Ok more) = refl
after-nil (Err fault) = refl

cut_opcodes-some :
    (count : ℕ) (bytes : List ℕ) (raw : RawOpcode) → first_opcode bytes ≡ Some raw →
    cut_opcodes (suc count) bytes ≡ Some raw ∷ cut_opcodes count (drop (16 + length raw.params) bytes)
unfolding cut_opcodes
cut_opcodes-some count bytes raw cut = rw (cut, cut_opcodes) refl

cut_opcodes-none :
    (count : ℕ) (bytes : List ℕ) → first_opcode bytes ≡ None → cut_opcodes (suc count) bytes ≡ None ∷ []
unfolding cut_opcodes
cut_opcodes-none count bytes cut = rw (cut, cut_opcodes) refl

one_less : (index count : ℕ) → index < count → count - index ≡ suc (count - (index + 1))
one_less index count below = omega arith

-- an opcode was read
told_from-ok :
    (list count index : ℕ) (bytes : List ℕ) (before : List Opcode) (raw : RawOpcode) (opcode : Opcode) →
    index < count → first_opcode bytes ≡ Some raw → opcode_of list index raw ≡ Ok opcode →
    after before (told_from list count index bytes)
    ≡ after (before ++ opcode ∷ []) (told_from list count (index + 1) (drop (16 + length raw.params) bytes))
unfolding opcodes_from
told_from-ok list count index bytes before raw opcode below cut read =
    rw (one_less index count below, cut_opcodes-some (count - (index + 1)) bytes raw cut, read)
    (after-and_then before opcode (told_from list count (index + 1) (drop (16 + length raw.params) bytes)))

-- an opcode was refused
told_from-err :
    (list count index : ℕ) (bytes : List ℕ) (before : List Opcode) (raw : RawOpcode) (fault : OpcodeFault) →
    index < count → first_opcode bytes ≡ Some raw → opcode_of list index raw ≡ Err fault →
    after before (told_from list count index bytes) ≡ Err fault
unfolding opcodes_from
told_from-err list count index bytes before raw fault below cut read =
    rw (one_less index count below, cut_opcodes-some (count - (index + 1)) bytes raw cut, read) refl

-- an opcode passed the end
told_from-truncated :
    (list count index : ℕ) (bytes : List ℕ) (before : List Opcode) → index < count → first_opcode bytes ≡ None →
    after before (told_from list count index bytes) ≡ Err (Truncated index)
unfolding opcodes_from
told_from-truncated list count index bytes before below cut =
    rw (one_less index count below, cut_opcodes-none (count - (index + 1)) bytes cut) refl

-- no opcode is left
told_from-end :
    (list count index : ℕ) (bytes : List ℕ) (before : List Opcode) → count ≤ index →
    after before (told_from list count index bytes) ≡ Ok before
unfolding opcodes_from cut_opcodes
told_from-end list count index bytes before all =
    let none : count - index ≡ 0 = omega arith in
    rw (none, append-nil) refl

-- what holds of one opcode holds of each in the list of it
alone : (P : Opcode → Type 0) (opcode : Opcode) → P opcode → All P (opcode ∷ [])
alone P opcode holds k d below =
    let first : k ≡ 0 = omega (arith, below) in
    rw first holds

-- the walk begins
pub begins : (list count : ℕ) (bytes : List ℕ) → HasRead list count bytes 0 bytes []
begins list count bytes = record {
  walk =
      let all : count - 0 ≡ count = omega arith in
      rw all (after-nil (opcodes_from list 0 (cut_opcodes count bytes)));
  can_run = λ k d none. absurd (omega arith);
  counted = refl;
}

-- an opcode was read
pub goes_on :
    {list count : ℕ} {bytes : List ℕ} {index : ℕ} {rest : List ℕ} {opcodes : List Opcode} {raw : RawOpcode}
    {opcode : Opcode} →
    HasRead list count bytes index rest opcodes → index < count → first_opcode rest ≡ Some raw →
    opcode_of list index raw ≡ Ok opcode → CanRunIn list opcode →
    HasRead list count bytes (index + 1) (drop (16 + length raw.params) rest) (opcodes ++ opcode ∷ [])
goes_on {list} {count} {bytes} {index} {rest} {opcodes} {raw} {opcode} had below cut read runs = record {
  walk = sym (told_from-ok list count index rest opcodes raw opcode below cut read) ∙ had.walk;
  can_run = All-append (CanRunIn list) opcodes (opcode ∷ []) had.can_run (alone (CanRunIn list) opcode runs);
  counted = simp length-append (omega (arith, had.counted));
}

-- an opcode was refused
pub stops :
    {list count : ℕ} {bytes : List ℕ} {index : ℕ} {rest : List ℕ} {opcodes : List Opcode} {raw : RawOpcode}
    {fault : OpcodeFault} →
    HasRead list count bytes index rest opcodes → index < count → first_opcode rest ≡ Some raw →
    opcode_of list index raw ≡ Err fault → opcodes_from list 0 (cut_opcodes count bytes) ≡ Err fault
stops {list} {count} {bytes} {index} {rest} {opcodes} {raw} {fault} had below cut read =
    sym had.walk ∙ told_from-err list count index rest opcodes raw fault below cut read

-- an opcode passed the end
pub stops_short :
    {list count : ℕ} {bytes : List ℕ} {index : ℕ} {rest : List ℕ} {opcodes : List Opcode} →
    HasRead list count bytes index rest opcodes → index < count → first_opcode rest ≡ None →
    opcodes_from list 0 (cut_opcodes count bytes) ≡ Err (Truncated index)
stops_short {list} {count} {bytes} {index} {rest} {opcodes} had below cut =
    sym had.walk ∙ told_from-truncated list count index rest opcodes below cut

-- all opcodes were read
pub ends :
    {list count : ℕ} {bytes : List ℕ} {index : ℕ} {rest : List ℕ} {opcodes : List Opcode} →
    HasRead list count bytes index rest opcodes → count ≤ index →
    opcodes_from list 0 (cut_opcodes count bytes) ≡ Ok opcodes
ends {list} {count} {bytes} {index} {rest} {opcodes} had all =
    sym had.walk ∙ told_from-end list count index rest opcodes all
