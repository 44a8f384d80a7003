-- Code words that are looked up by the next nine bits: this project's own.
use Rattle.std.specs.Prelude.{ℕ, ◌-◌, ◌/◌, ◌^◌, ◌≤◌, List, Contains, Option, IfSome}
use Rattle.ljpeg_huffman.specs.declared.table.Code.{Code}
use Rattle.binary_digits.specs.Digits.{bits_of}
use Rattle.ljpeg_huffman.specs.Words.{code_words}

-- A code word of the table that begins the nine bits of `place`, if one is given.
unfoldable pub IsShort : List ℕ → List ℕ → ℕ → Option Code → Type 0
IsShort counts values place found =
    IfSome found (λ code. (code.size ≤ 9) × (code.category ≤ 16)
    × Contains (code_words counts values) (bits_of code.size (place / 2 ^ (9 - code.size)), code.category))
