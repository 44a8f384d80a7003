-- Images as bytes: the binary portable pixmap (Netpbm's PPM, `P6`), the tag image file (TIFF 6.0), and this project's
-- own reply line.
use Rattle.std.specs.Prelude.{ℕ, List, ◌++◌, codes, decimal}
use Rattle.std.specs.Int.{to_be_bytes, to_le_bytes, w16}
use Rattle.std.specs.List.{flat_map}
use Rattle.dev_settings.specs.declared.format.Format.{Format}
use Rattle.dev_settings.specs.declared.format.Format.TheVariants.{Ppm, Tiff}
use Rattle.image_out.specs.Tiff.{tiff_head_of}

-- the head of a binary portable pixmap of w columns and h rows, with samples up to 65535
abbrev pub ppm_head_of : ℕ → ℕ → List ℕ
ppm_head_of w h = codes "P6\n" ++ decimal w ++ codes " " ++ decimal h ++ codes "\n65535\n"

-- the head of an image of w columns and h rows
abbrev pub head_of : Format → ℕ → ℕ → List ℕ
head_of Ppm w h = ppm_head_of w h
head_of Tiff w h = tiff_head_of w h

-- the bytes of the samples, two to a sample: in a pixmap the most significant byte first, in a tag image file the least
-- significant byte first
abbrev pub pixels_of : Format → List ℕ → List ℕ
pixels_of Ppm samples = flat_map (to_be_bytes w16) samples
pixels_of Tiff samples = flat_map (to_le_bytes w16) samples

-- an image of w columns and h rows
abbrev pub image_of : Format → ℕ → ℕ → List ℕ → List ℕ
image_of format w h samples = head_of format w h ++ pixels_of format samples

-- the line before an image of n bytes
abbrev pub reply_head_of : ℕ → List ℕ
reply_head_of n = codes "image " ++ decimal n ++ codes "\n"
