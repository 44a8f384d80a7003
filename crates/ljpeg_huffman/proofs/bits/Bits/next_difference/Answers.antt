use Rattle.std.proofs.Common.{◌≡◌, List, ◌++◌, Bool, arith, refl, sym, ap, ◌∙◌, subst, to_z, of_z, to_z-of_z, w32, ◌+◌}
use Rattle.std.proofs.Common.{◌-◌, ◌/◌, ◌^◌, ◌<◌}
use Rattle.binary_digits.specs.Digits.{bits_of}
use Rattle.ljpeg_huffman.specs.Differences.{further_bits, difference, SpellsOne, HasNoCode}
use Rattle.ljpeg_huffman.specs.inner.Registers.{bits_left}
use Rattle.binary_digits.proofs.DigitLemmas.{length-bits_of}
use Rattle.ljpeg_huffman.proofs.DecodeLemmas.{no_code, ended_at, takes, not_ended, not_no_code, ended_or_no_code}
use Rattle.ljpeg_huffman.proofs.bits.Bits.next_difference.Goals as goal
use Rattle.ljpeg_huffman.proofs.bits.Bits.next_difference.Goals.{In_default, After-extended}

-- no code word begins the bits that are left
none_left : (c : In_default) → HasNoCode c.args.table.now c.args.self.now
none_left c =
    let register = c.fill.new.self in
    subst (HasNoCode c.args.table.now) (c.fill.ensures.same ∙ c.self.view_is)
    (no_code c.args.table.now c.find.ensures.prefix_free c.find.ensures.sizes register.held register.word
    register.bytes.now c.fill.ensures.enough c.window.result c.window.ensures c.in_default.ensures.none)

-- what was taken spells the difference
taken_left : (c : After-extended)
    → (taken : List Bool) × (c.args.self.now ≡ taken ++ bits_left c.take-extra.new.self.held c.take-extra.new.self.word
    c.take-extra.new.self.bytes.now) × SpellsOne c.args.table.now taken (to_z w32 (of_z w32 c.extended.result))
taken_left c =
    let before = c.fill.new.self in
    let after = c.take-extra.new.self in
    let code = c.in-Some.code in
    let further = c.further-further.result in
    let extra = c.take-extra.result in
    let back : (code.size + further) - further ≡ code.size = omega arith in
    let value : to_z w32 (of_z w32 c.extended.result) ≡ difference code.category extra =
    to_z-of_z {w = w32} (record { sfits = c.extended.type_inv }) ∙ c.extended.ensures in
    let fits : extra < 2 ^ further_bits code.category =
    subst (λ k. extra < 2 ^ k) c.further-further.ensures c.take-extra.ensures.number in
    let found = takes c.args.table.now c.find.ensures.prefix_free c.find.ensures.sizes before.held before.word
    before.bytes.now c.fill.ensures.enough c.window.result c.window.ensures code.size code.category
    c.in-Some.ensures.size c.in-Some.ensures.category c.in-Some.ensures.found
    (bits_of ((code.size + further) - further) (before.word / 2 ^ (before.held - ((code.size + further) - further))))
    (bits_of further extra) after.held after.word extra (to_z w32 (of_z w32 c.extended.result))
    c.take-extra.ensures.bits (length-bits_of ((code.size + further) - further) _ ∙ back)
    (ap (λ k. bits_of k extra) c.further-further.ensures) fits value in
    let bytes = c.take-extra.ensures.after in (
      found.0,
      sym (c.fill.ensures.same ∙ c.self.view_is) ∙ found.1 ∙ ap
          (λ b. found.0 ++ bits_left after.held after.word b) (sym bytes),
      found.2,
    )

pub returns-in_default-clause-ended : goal.returns-in_default-clause-ended
returns-in_default-clause-ended c =
    (λ e. absurd (cc), λ end. absurd (ended_or_no_code c.args.table.now c.args.self.now end (none_left c)))

pub returns-in_default-clause-no_code : goal.returns-in_default-clause-no_code
returns-in_default-clause-no_code c = (λ e. none_left c, λ h. refl)

pub returns-then-self-size-clause-ended : goal.returns-then-self-size-clause-ended
returns-then-self-size-clause-ended c =
    let register = c.fill.new.self in
    let code = c.in-Some.code in
    let says = c.in-Some.ensures in
    let e = c.further-further.ensures in
    let end = ended_at c.args.self.now c.args.table.now c.find.ensures.prefix_free c.find.ensures.sizes register.held
    register.word register.bytes.now c.fill.ensures.enough c.window.result c.window.ensures code.size code.category
    says.size says.category says.found (omega arith) (c.fill.ensures.same ∙ c.self.view_is) in
    (λ _. end, λ _. refl)

pub returns-then-self-size-clause-no_code : goal.returns-then-self-size-clause-no_code
returns-then-self-size-clause-no_code c =
    let register = c.fill.new.self in
    let code = c.in-Some.code in
    let says = c.in-Some.ensures in
    let e = c.further-further.ensures in
    let end = ended_at c.args.self.now c.args.table.now c.find.ensures.prefix_free c.find.ensures.sizes register.held
    register.word register.bytes.now c.fill.ensures.enough c.window.result c.window.ensures code.size code.category
    says.size says.category says.found (omega arith) (c.fill.ensures.same ∙ c.self.view_is) in
    (λ e. absurd (cc), λ none. absurd (ended_or_no_code c.args.table.now c.args.self.now end none))

pub returns-clause-ok : goal.returns-clause-ok
returns-clause-ok c = taken_left c

pub returns-clause-ended : goal.returns-clause-ended
returns-clause-ended c = (
  λ e. absurd (cc),
  λ end. let t = taken_left c in
      absurd (not_ended c.args.table.now c.find.ensures.prefix_free c.args.self.now t.0 _ _ t.1 t.2 end),
)

pub returns-clause-no_code : goal.returns-clause-no_code
returns-clause-no_code c = (
  λ e. absurd (cc),
  λ none. let t = taken_left c in
      absurd (not_no_code c.args.table.now c.args.self.now t.0 _ _ t.1 t.2 none),
)
