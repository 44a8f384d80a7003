-- What a call that takes memory answers, where a frame is read. This is this project's own.
use Rattle.std.specs.Prelude.{Result}
use Rattle.text_line.specs.Chain.{AnswersUnless}
use Rattle.tag_rules.specs.declared.faults.FrameFault.{FrameFault}
use Rattle.tag_rules.specs.declared.faults.FrameFault.TheVariants.{Memory}

-- its definition's answer, or that it is out of memory
abbrev pub Answers : {A : Type 0} → Result A FrameFault → Result A FrameFault → Type 0
Answers result want = AnswersUnless Memory result want
