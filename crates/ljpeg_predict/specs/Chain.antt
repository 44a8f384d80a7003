-- Steps that may be refused, one after the other: this project's own.
use Rattle.std.specs.Prelude.{Result}
use Rattle.text_line.specs.Chain.{and_then}
use Rattle.ljpeg_predict.specs.declared.JpegFault.{JpegFault}

infixl 10 ◌>>=◌
-- the value of a step goes to the next one; the first refusal is the answer
abbrev pub ◌>>=◌ : {A B : Type 0} → Result A JpegFault → (A → Result B JpegFault) → Result B JpegFault
answer >>= next = and_then answer next
