-- The formats of images, by their names in a script, which are this project's own.
use Rattle.std.specs.Prelude.{ℕ, List, Option, Some, None, if◌then◌else◌, codes, bytes_eq}
use Rattle.dev_settings.specs.declared.format.Format.{Format}
use Rattle.dev_settings.specs.declared.format.Format.TheVariants.{Ppm, Tiff}

-- the format that a word names
abbrev pub format_of : List ℕ → Option Format
format_of word =
    if bytes_eq word (codes "ppm") then Some Ppm
    else (if bytes_eq word (codes "tiff") then Some Tiff else None)
