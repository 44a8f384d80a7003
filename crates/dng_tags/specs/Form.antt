-- The group of the form: what kind of image it is (TIFF 6.0, section 8, "PhotometricInterpretation", "Compression",
-- "SamplesPerPixel", "BitsPerSample", "ImageWidth", "ImageLength", and section 19, "SampleFormat"; DNG 1.6, chapter 3,
-- for photometric interpretation 32803 and compression 7). The limits of the image's size are this project's own.
use Rattle.std.specs.Prelude.{ℕ, ◌*◌, ◌==◌, nat_le, ◌&&◌, ◌||◌, if◌then◌else◌, Bool, Result, Ok, Err}
use Rattle.plane_view.specs.declared.Shape.{Shape}
use Rattle.plane_view.specs.Shapes.{max_samples, max_side}
use Rattle.text_line.specs.Chain.{and_then}
use Rattle.tag_rules.specs.Values.{Dirs, number_or, required_number_of}
use Rattle.tag_rules.specs.declared.faults.FrameFault.{FrameFault}
use Rattle.tag_rules.specs.declared.faults.FrameFault.TheVariants.{Compression as CompressionFault, Depth, Format}
use Rattle.tag_rules.specs.declared.faults.FrameFault.TheVariants.{Photometric, Samples, Size}
use Rattle.dng_tags.specs.declared.form.Form.{Form}
use Rattle.tag_rules.specs.declared.tags.Tag.{Tag}
use Rattle.tag_rules.specs.declared.tags.Tag.TheVariants.{BitsPerSample, Compression, ImageLength, ImageWidth}
use Rattle.tag_rules.specs.declared.tags.Tag.TheVariants.{PhotometricInterpretation, SampleFormat, SamplesPerPixel}

-- a colour filter array
unfoldable pub photometric_of : Dirs → Result ℕ FrameFault
photometric_of dirs =
    and_then (required_number_of dirs PhotometricInterpretation) (λ v.
    if v == 32803 then Ok v else Err (Photometric v))

-- whether the samples are in lossless JPEG streams
unfoldable pub lossless_of : Dirs → Result Bool FrameFault
lossless_of dirs =
    and_then (number_or dirs Compression 1) (λ v.
    if v == 1 || v == 7 then Ok (v == 7) else Err (CompressionFault v))

-- how many samples a pixel has
unfoldable pub samples_per_pixel_of : Dirs → Result ℕ FrameFault
samples_per_pixel_of dirs =
    and_then (number_or dirs SamplesPerPixel 1) (λ v. if v == 1 then Ok v else Err (Samples v))

-- the bits of a sample
unfoldable pub depth_of : Dirs → Result ℕ FrameFault
depth_of dirs =
    and_then (number_or dirs BitsPerSample 1) (λ v.
    if nat_le 8 v && nat_le v 16 then Ok v else Err (Depth v))

-- unsigned whole numbers
unfoldable pub format_of : Dirs → Result ℕ FrameFault
format_of dirs = and_then (number_or dirs SampleFormat 1) (λ v. if v == 1 then Ok v else Err (Format v))

-- a side of the image
unfoldable pub side_of : Dirs → Tag → Result ℕ FrameFault
side_of dirs tag =
    and_then (required_number_of dirs tag) (λ side.
    if nat_le 1 side && nat_le side max_side then Ok side else Err Size)

-- the shape of the raw image: its sides, of one plane
unfoldable pub shape_of : Dirs → Result Shape FrameFault
shape_of dirs =
    and_then (side_of dirs ImageWidth) (λ cols.
    and_then (side_of dirs ImageLength) (λ rows.
    if nat_le (rows * cols) max_samples then Ok (record { rows = rows; cols = cols; planes = 1 }) else Err Size))

-- the group of the form
unfoldable pub form_of : Dirs → Result Form FrameFault
form_of dirs =
    and_then (photometric_of dirs) (λ _.
    and_then (lossless_of dirs) (λ lossless.
    and_then (samples_per_pixel_of dirs) (λ _.
    and_then (depth_of dirs) (λ depth.
    and_then (format_of dirs) (λ _.
    and_then (shape_of dirs) (λ shape. Ok (record { lossless = lossless; depth = depth; shape = shape })))))))
