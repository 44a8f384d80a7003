-- Markers and the segments behind them (ITU-T T.81, B.1.1.2 to B.1.1.4).
use Rattle.std.specs.Prelude.{ℕ, ◌+◌, ◌-◌, ◌*◌, ◌==◌, nat_le, nat_lt, Bool, ◌&&◌, ◌||◌, if◌then◌else◌, List, [], ◌∷◌}
use Rattle.std.specs.Prelude.{length, take, drop, slice_index, Option, None, Some, Result, Ok, Err}
use Rattle.std.specs.List.{list_any}
use Rattle.ljpeg_predict.specs.declared.JpegFault.{JpegFault}
use Rattle.ljpeg_predict.specs.declared.JpegFault.TheVariants as fault
use Rattle.ljpeg_predict.specs.declared.headers.FrameHeader.{FrameHeader}
use Rattle.ljpeg_predict.specs.declared.segments.Kind.{Kind}
use Rattle.ljpeg_predict.specs.declared.segments.Kind.TheVariants as kind

-- the number in the two bytes at a place, the most significant one first (B.1.1.1)
abbrev pub number_at : List ℕ → ℕ → ℕ
number_at bytes place = 256 * slice_index bytes place + slice_index bytes (place + 1)

-- the byte behind an FF and any fill bytes, which are FF too, and the bytes behind it (B.1.1.2)
unfoldable pub code_at : List ℕ → Result (ℕ × List ℕ) JpegFault
code_at [] = Err fault.Ended
code_at (byte ∷ bytes) = if byte == 0xFF then code_at bytes else Ok (byte, bytes)

-- the marker that bytes begin with, and the bytes behind it (B.1.1.2)
unfoldable pub marker_at : List ℕ → Result (ℕ × List ℕ) JpegFault
marker_at [] = Err fault.Ended
marker_at (byte ∷ bytes) = if byte == 0xFF then code_at bytes else Err (fault.Marker byte)

-- the frame headers of the other processes, SOF0 to SOF15 but SOF3 (table B.1)
abbrev pub is_other_frame : ℕ → Bool
is_other_frame marker =
    list_any (λ m. m == marker)
    (0xC0 ∷ 0xC1 ∷ 0xC2 ∷ 0xC5 ∷ 0xC6 ∷ 0xC7 ∷ 0xC9 ∷ 0xCA ∷ 0xCB ∷ 0xCD ∷ 0xCE ∷ 0xCF ∷ [])

-- the segments that are passed over: DQT, APP0 to APP15 and COM (table B.1)
abbrev pub is_passed_over : ℕ → Bool
is_passed_over marker = marker == 0xDB || (nat_le 0xE0 marker && nat_le marker 0xEF) || marker == 0xFE

-- whether a scan may begin: behind a frame header
abbrev pub scan_kind : Option FrameHeader → Result Kind JpegFault
scan_kind None = Err (fault.Marker 0xDA)
scan_kind (Some frame) = Ok (kind.Scan frame)

-- whether a frame header may stand here: only one does
abbrev pub frame_kind : Option FrameHeader → Result Kind JpegFault
frame_kind None = Ok kind.Frame
frame_kind (Some frame) = Err (fault.Marker 0xC3)

-- the kind of a marker's segment, behind a frame header if one was told: SOF3, DHT, SOS, DRI (table B.1), or one that
-- is passed over
unfoldable pub kind_of : Option FrameHeader → ℕ → Result Kind JpegFault
kind_of frame marker =
    if is_other_frame marker then Err (fault.NotLossless marker)
    else (if marker == 0xC3 then frame_kind frame
    else (if marker == 0xC4 then Ok kind.Tables
    else (if marker == 0xDA then scan_kind frame
    else (if marker == 0xDD then Ok kind.RestartInterval
    else (if is_passed_over marker then Ok kind.PassedOver else Err (fault.Marker marker))))))

-- the body of a segment and the bytes behind it. Two bytes tell its length, which counts them too (B.1.1.4).
unfoldable pub body_at : List ℕ → Result (List ℕ × List ℕ) JpegFault
body_at bytes =
    if nat_lt (length bytes) 2 then Err fault.Ended
    else (if nat_lt (number_at bytes 0) 2 then Err fault.HeaderLength
    else (if nat_lt (length bytes) (number_at bytes 0) then Err fault.Ended
    else Ok (take (number_at bytes 0 - 2) (drop 2 bytes), drop (number_at bytes 0) bytes)))
