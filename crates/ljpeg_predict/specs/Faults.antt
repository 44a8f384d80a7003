-- What a refusal says: its name, and its fields in decimal, each after a space (this project's own).
use Rattle.std.specs.Prelude.{ℕ, List, ◌++◌, codes}
use Rattle.text_line.specs.Fields.{field_text}
use Rattle.ljpeg_predict.specs.declared.JpegFault.{JpegFault}
use Rattle.ljpeg_predict.specs.declared.JpegFault.TheVariants as fault

-- a refusal's name
abbrev pub jpeg_fault_name : JpegFault → List ℕ
jpeg_fault_name fault.NoStart = codes "NoStart"
jpeg_fault_name (fault.Marker byte) = codes "Marker"
jpeg_fault_name (fault.NotLossless marker) = codes "NotLossless"
jpeg_fault_name fault.HeaderLength = codes "HeaderLength"
jpeg_fault_name fault.Precision = codes "Precision"
jpeg_fault_name fault.Components = codes "Components"
jpeg_fault_name fault.Sampling = codes "Sampling"
jpeg_fault_name fault.Predictor = codes "Predictor"
jpeg_fault_name fault.PointTransform = codes "PointTransform"
jpeg_fault_name fault.Restart = codes "Restart"
jpeg_fault_name fault.Table = codes "Table"
jpeg_fault_name fault.NoTable = codes "NoTable"
jpeg_fault_name (fault.Size has) = codes "Size"
jpeg_fault_name fault.Ended = codes "Ended"
jpeg_fault_name fault.NoCode = codes "NoCode"

-- the name of a fault, and its number if it has one
abbrev pub jpeg_fault_text : JpegFault → List ℕ
jpeg_fault_text (fault.Marker byte) = codes "Marker" ++ field_text byte
jpeg_fault_text (fault.NotLossless marker) = codes "NotLossless" ++ field_text marker
jpeg_fault_text (fault.Size has) = codes "Size" ++ field_text has
jpeg_fault_text other = jpeg_fault_name other
