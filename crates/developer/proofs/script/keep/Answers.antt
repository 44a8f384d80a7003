use Rattle.std.proofs.Common.{◌≡◌, ℕ, List, ◌++◌, if◌then◌else◌, take, Result, Ok, Err, ◌∙◌, arith}
use Rattle.std.specs.Prelude.{OnOk, is_ok}
use Rattle.std.proofs.lemmas.Result.{on_ok_weaker}
use Rattle.developer.proofs.ScriptLines.{take_both}
use Rattle.developer.proofs.script.keep.Goals as goal

-- what was appended, where there was memory
grown : {T E : Type 0} (result : Result T E) (old new more : List ℕ) → new ≡ (if is_ok result then old ++ more else old)
    → OnOk result (new ≡ old ++ more)
grown (Ok value) old new more is = is
grown (Err error) old new more is = tt

pub returns : goal.returns
returns c =
    on_ok_weaker c.extend_from_slice.result
    (λ is before keeps. is ∙ take_both 4097 before c.args.bytes.now c.args.line.now.items c.min.result keeps
    (omega (arith, c.min.ensures, c.min-room.ensures, c.len.ensures, c.args.line.now.ok.0)))
    (grown c.extend_from_slice.result c.args.line.now.items c.extend_from_slice.new.self.items
    (take c.min.result c.args.bytes.now) c.extend_from_slice.ensures.items)
