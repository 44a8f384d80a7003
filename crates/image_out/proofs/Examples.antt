-- The definitions at work on small images.
use Rattle.std.proofs.Common.{◌≡◌, [], ◌∷◌, length, refl}
use Rattle.std.specs.Prelude.{codes}
use Rattle.dev_settings.specs.declared.format.Format.TheVariants.{Ppm, Tiff}
use Rattle.image_out.specs.Image.{ppm_head_of, reply_head_of, pixels_of, image_of}

head_of_one_pixel : ppm_head_of 1 1 ≡ codes "P6\n1 1\n65535\n"
unfolding Rattle.std.specs.Fmt.digits
head_of_one_pixel = refl

reply_of_nineteen : reply_head_of 19 ≡ codes "image 19\n"
unfolding Rattle.std.specs.Fmt.digits
reply_of_nineteen = refl

most_significant_byte_first : pixels_of Ppm (1600 ∷ 65535 ∷ []) ≡ 6 ∷ 64 ∷ 255 ∷ 255 ∷ []
most_significant_byte_first = refl

least_significant_byte_first : pixels_of Tiff (1600 ∷ 65535 ∷ []) ≡ 64 ∷ 6 ∷ 255 ∷ 255 ∷ []
least_significant_byte_first = refl

bytes_of_a_tag_image_file : length (image_of Tiff 1 1 (4660 ∷ 4660 ∷ 4660 ∷ [])) ≡ 186
unfolding Rattle.image_out.specs.Tiff.tiff_head_of
bytes_of_a_tag_image_file = refl

nineteen_bytes : length (image_of Ppm 1 1 (4660 ∷ 4660 ∷ 4660 ∷ [])) ≡ 19
unfolding Rattle.std.specs.Fmt.digits
nineteen_bytes = refl
