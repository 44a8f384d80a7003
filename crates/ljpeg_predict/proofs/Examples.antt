-- The stream definition at work, computed: 2 by 2 samples of 12 bits by predictor 1, with the code word 0 for category
-- 0 and 10 for category 1.
use Rattle.std.proofs.Common.{◌≡◌, ℕ, [], ◌∷◌, ◌++◌, List, Ok, Err, refl}
use Rattle.binary_digits.specs.Digits.{bits_of, number_of}
use Rattle.ljpeg_huffman.specs.Words.{code_words, space_from, table_fault, words_from, words_of_length}
use Rattle.ljpeg_huffman.specs.Differences.{data_bits, unstuffed}
use Rattle.ljpeg_predict.specs.Decoded.{code_in, decoded, difference_in, differences_in, rebuilt_behind}
use Rattle.ljpeg_predict.specs.Headers.{chosen_tables, frame_of, has_other_component, headers_from, headers_of}
use Rattle.ljpeg_predict.specs.Headers.{is_subsampled, lacks_table, scan_of, segment_then, sized, table_in, tables_from}
use Rattle.ljpeg_predict.specs.Segments.{body_at, code_at, kind_of, marker_at}
use Rattle.ljpeg_predict.specs.Prediction.{prediction}
use Rattle.ljpeg_predict.specs.declared.JpegFault.TheVariants as fault

abbrev small : List ℕ → List ℕ
small bytes =
    (0xFF ∷ 0xD8 ∷ 0xFF ∷ 0xC3 ∷ 0 ∷ 11 ∷ 12 ∷ 0 ∷ 2 ∷ 0 ∷ 2 ∷ 1 ∷ 1 ∷ 17 ∷ 0 ∷ 0xFF ∷ 0xC4 ∷ 0 ∷ 21 ∷ 0 ∷ 1 ∷ 1 ∷ 0 ∷ 0
    ∷ 0 ∷ 0 ∷ 0 ∷ 0 ∷ 0 ∷ 0 ∷ 0 ∷ 0 ∷ 0 ∷ 0 ∷ 0 ∷ 0 ∷ 0 ∷ 1 ∷ 0xFF ∷ 0xDA ∷ 0 ∷ 8 ∷ 1 ∷ 1 ∷ 0 ∷ 1 ∷ 0 ∷ 0 ∷ [])
    ++ bytes

rows :
    (decoded (small (0x0F ∷ [])) 4 ≡ Ok (2048 ∷ 2048 ∷ 2048 ∷ 2048 ∷ []))
    × (decoded (small (0xA3 ∷ [])) 4 ≡ Ok (2049 ∷ 2049 ∷ 2049 ∷ 2049 ∷ []))
    × (decoded (small (0x53 ∷ [])) 4 ≡ Ok (2048 ∷ 2049 ∷ 2048 ∷ 2048 ∷ []))
    × (decoded (small []) 4 ≡ Err fault.Ended)
    × (decoded (small (0xC0 ∷ [])) 4 ≡ Err fault.NoCode)
    × (decoded (small (0x0F ∷ [])) 5 ≡ Err (fault.Size 4))
unfolding decoded code_in difference_in differences_in rebuilt_behind prediction data_bits unstuffed bits_of number_of
    headers_of headers_from segment_then marker_at code_at kind_of body_at frame_of is_subsampled tables_from table_in
    table_fault space_from code_words words_from words_of_length scan_of chosen_tables sized has_other_component
    lacks_table
rows = (refl, refl, refl, refl, refl, refl)
