-- The keys of settings, which are this project's own.
use Rattle.std.specs.Prelude.{ℕ, List, [], ◌∷◌, Option, Some, None, codes, bytes_eq, if◌then◌else◌}
use Rattle.dev_settings.specs.declared.key.Key.{Key}
use Rattle.dev_settings.specs.declared.key.Key.TheVariants.{Black, White, Demosaic, Wb, Exposure, Matrix, Tone}

-- the key that a word names
abbrev pub key_of : List ℕ → Option Key
key_of word =
    if bytes_eq word (codes "black") then Some Black
    else (if bytes_eq word (codes "white") then Some White
    else (if bytes_eq word (codes "demosaic") then Some Demosaic
    else (if bytes_eq word (codes "wb") then Some Wb
    else (if bytes_eq word (codes "exposure") then Some Exposure
    else (if bytes_eq word (codes "matrix") then Some Matrix
    else (if bytes_eq word (codes "tone") then Some Tone else None))))))

-- the name of a key
abbrev pub name_of : Key → List ℕ
name_of Black = codes "black"
name_of White = codes "white"
name_of Demosaic = codes "demosaic"
name_of Wb = codes "wb"
name_of Exposure = codes "exposure"
name_of Matrix = codes "matrix"
name_of Tone = codes "tone"

-- all keys, in their order
abbrev pub keys : List Key
keys = Black ∷ White ∷ Demosaic ∷ Wb ∷ Exposure ∷ Matrix ∷ Tone ∷ []
