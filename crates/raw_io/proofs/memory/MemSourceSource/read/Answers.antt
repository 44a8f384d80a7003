use Rattle.std.proofs.Common.{◌≡◌, ℕ, List, drop, sym, ◌∙◌, ap}
use Rattle.std.proofs.lemmas.List.{take_rest}
use Rattle.raw_io.specs.Memory.{MemorySource}
use Rattle.raw_io.proofs.Pieces.{copied_prefix}
use Rattle.raw_io.proofs.memory.MemSourceSource.read.Goals as goal

pub returns-clause-taken : goal.returns-clause-taken
returns-clause-taken c =
    let bytes = c.self.inside.bytes.items in
    let taken = c.self.inside.taken in
    let is : drop taken bytes ≡ c.args.self.now.left = ap (λ (s : MemorySource). s.left) c.self.view_is in
    let rest = take_rest c.deref.result.now taken ∙ ap (λ (t : List ℕ). drop taken t) c.deref.ensures.value in
    copied_prefix bytes _ _ _ _ taken c.copy_prefix-count.result
    (sym is) rest c.copy_prefix-count.ensures.count c.copy_prefix-count.ensures.copied
