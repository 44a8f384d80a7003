-- What calls of this crate answer, beside what reading gives by definition: this project's own.
use Rattle.std.specs.Prelude.{◌≡◌, Result, Ok, Err}
use Rattle.ljpeg_predict.specs.declared.JpegFault.{JpegFault}

-- what a call answers, its value seen by `view`, is what reading gives
abbrev pub Gives : {X Y : Type 0} → (X → Y) → Result X JpegFault → Result Y JpegFault → Type 0
Gives view (Ok value) reading = reading ≡ Ok (view value)
Gives view (Err fault) reading = reading ≡ Err fault
