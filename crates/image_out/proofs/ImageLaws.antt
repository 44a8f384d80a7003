-- Laws of the bytes of images, for the proofs of callers.
use Rattle.std.proofs.Common.{◌≡◌, ℕ, ◌+◌, ◌*◌, List, [], ◌∷◌, ◌++◌, length, refl, arith, length-append}
use Rattle.std.specs.Int.{to_be_bytes, to_le_bytes, w16}
use Rattle.std.proofs.lemmas.List.Concat.{flat_map-append}
use Rattle.dev_settings.specs.declared.format.Format.{Format}
use Rattle.dev_settings.specs.declared.format.Format.TheVariants.{Ppm, Tiff}
use Rattle.image_out.specs.Image.{head_of, pixels_of, image_of}

-- each sample takes two bytes
pub length-pixels_of : (format : Format) (samples : List ℕ) → length (pixels_of format samples) ≡ 2 * length samples
length-pixels_of Ppm [] = refl
length-pixels_of Ppm (sample ∷ samples) = omega (arith, length-pixels_of Ppm samples)
length-pixels_of Tiff [] = refl
length-pixels_of Tiff (sample ∷ samples) = omega (arith, length-pixels_of Tiff samples)

-- the bytes of samples in two pieces
pub pixels_of-append : (format : Format) (prefix samples : List ℕ)
    → pixels_of format (prefix ++ samples) ≡ pixels_of format prefix ++ pixels_of format samples
pixels_of-append Ppm prefix samples = flat_map-append (to_be_bytes w16) prefix samples
pixels_of-append Tiff prefix samples = flat_map-append (to_le_bytes w16) prefix samples

-- the length that the reply line names
pub length-image_of : (format : Format) (w h : ℕ) (samples : List ℕ)
    → length (image_of format w h samples) ≡ length (head_of format w h) + 2 * length samples
length-image_of format w h samples =
    omega (arith, length-append (head_of format w h) (pixels_of format samples), length-pixels_of format samples)
