-- Made frames: their samples, their strip in three forms, the whole file. The samples and the choice of entries are
-- this project's own; the entries are those of TIFF 6.0, section 8, TIFF/EP and DNG 1.6, chapter 4.
use Rattle.std.specs.Prelude.{ℕ, ◌+◌, ◌*◌, ◌/◌, ◌%◌, Bool, true, false, List, [], ◌∷◌, ◌++◌, length, map, replicate}
use Rattle.std.specs.List.{flat_map, range_with_len}
use Rattle.std.specs.Option.{option_map_or}
use Rattle.std.specs.Result.{result_ok}
use Rattle.std.specs.Fork.{slice_chunk}
use Rattle.byteorder.specs.Endian.{little_bytes}
use Rattle.binary_digits.specs.Digits.{bits_of, number_of}
use Rattle.ljpeg_predict.specs.Encoding.{head, sample_bits, stuffed, written_scan}
use Rattle.ljpeg_predict.specs.Headers.{predictor_of}
use Rattle.tiff_dirs.specs.declared.Order.TheVariants.{Little}
use Rattle.tiff_write.specs.declared.field.Field.{Field}
use Rattle.tiff_write.specs.declared.field.Value.TheVariants.{Bytes, Longs, Shorts}
use Rattle.tiff_write.specs.Files.{file_bytes}
use Rattle.frame_make.specs.declared.Make.{Make}
use Rattle.frame_make.specs.declared.Make.TheVariants.{Lossless, Packed12, Plain16}

-- the sample at row r, column c
abbrev pub made_sample : (number r c : ℕ) → ℕ
made_sample number r c = (number + 37 * r + 101 * c + r * c) % 4096

-- the samples of row r
unfoldable pub made_row : (number w r : ℕ) → List ℕ
made_row number w r = map (made_sample number r) (range_with_len 0 w)

-- the samples of all rows
unfoldable pub made_samples : (number w h : ℕ) → List ℕ
made_samples number w h = flat_map (made_row number w) (range_with_len 0 h)

-- digits as bytes, eight to each, most significant first; those that the last byte lacks are `fill`
unfoldable pub whole_bytes : (fill : Bool) → List Bool → List ℕ
whole_bytes fill bits =
    map (λ k. number_of (slice_chunk (bits ++ replicate 7 fill) 8 k)) (range_with_len 0 ((length bits + 7) / 8))

-- a row of samples of 12 bits, packed
unfoldable pub packed_row : List ℕ → List ℕ
packed_row samples = whole_bytes false (flat_map (bits_of 12) samples)

-- the bits of samples of 12 bits in lines of w, by predictor 1
unfoldable pub stream_bits : (w h : ℕ) → List ℕ → List Bool
stream_bits w h samples =
    option_map_or (λ predictor. sample_bits (written_scan 12 h w predictor []) samples (length samples))
    (result_ok (predictor_of 1)) []

-- the encoder's stream of them
unfoldable pub stream_of : (w h : ℕ) → List ℕ → List ℕ
stream_of w h samples = head 12 h w 1 ++ stuffed (whole_bytes true (stream_bits w h samples)) ++ 0xFF ∷ 0xD9 ∷ []

-- the strip
unfoldable pub made_strip : (number w h : ℕ) → Make → List ℕ
made_strip number w h Plain16 = flat_map (little_bytes 2) (made_samples number w h)
made_strip number w h Packed12 = flat_map (λ r. packed_row (made_row number w r)) (range_with_len 0 h)
made_strip number w h Lossless = stream_of w h (made_samples number w h)

-- BitsPerSample
abbrev pub depth_of : Make → ℕ
depth_of Plain16 = 16
depth_of Packed12 = 12
depth_of Lossless = 12

-- Compression: 1 for none, 7 for JPEG
abbrev pub compression_of : Make → ℕ
compression_of Plain16 = 1
compression_of Packed12 = 1
compression_of Lossless = 7

-- an entry of numbers of 16 bits (SHORT)
abbrev pub shorts : ℕ → List ℕ → Field
shorts tag numbers = record { tag = tag; kind = 3; count = length numbers; value = Shorts numbers }

-- an entry of numbers of 32 bits (LONG)
abbrev pub longs : ℕ → List ℕ → Field
longs tag numbers = record { tag = tag; kind = 4; count = length numbers; value = Longs numbers }

-- an entry of bytes (BYTE)
abbrev pub bytes_under : ℕ → List ℕ → Field
bytes_under tag numbers = record { tag = tag; kind = 1; count = length numbers; value = Bytes numbers }

-- The entries of a frame of w columns and h rows. The strip stands behind the directory, at 146: the header has 8
-- bytes, the count 2, the eleven entries 12 each, and the offset of the next directory 4.
unfoldable pub fields_of : (w h depth compression strip_length : ℕ) → List Field
fields_of w h depth compression strip_length =
    shorts 256 (w ∷ [])
    ∷ shorts 257 (h ∷ [])
    ∷ shorts 258 (depth ∷ [])
    ∷ shorts 259 (compression ∷ [])
    ∷ shorts 262 (32803 ∷ [])
    ∷ longs 273 (146 ∷ [])
    ∷ longs 279 (strip_length ∷ [])
    ∷ shorts 33421 (2 ∷ 2 ∷ [])
    ∷ bytes_under 33422 (0 ∷ 1 ∷ 1 ∷ 2 ∷ [])
    ∷ bytes_under 50706 (1 ∷ 4 ∷ 0 ∷ 0 ∷ [])
    ∷ shorts 50717 (4095 ∷ [])
    ∷ []

-- the file
unfoldable pub made_bytes : (number w h : ℕ) → Make → List ℕ
made_bytes number w h kind =
    let strip = made_strip number w h kind in
    file_bytes Little (fields_of w h (depth_of kind) (compression_of kind) (length strip) ∷ []) strip
