-- The tags that are read and the rule of each. Sources: TIFF 6.0, sections 8 (baseline), 15 (tiles) and 19
-- (SampleFormat); Adobe's TIFF Technical Note 1 (SubIFDs); TIFF/EP (CFARepeatPatternDim, CFAPattern); DNG 1.6,
-- chapter 4 (the tags from 50706 on). The counts' limits and the refusals are this project's own.
use Rattle.std.specs.Prelude.{ℕ, ◌^◌, ◌-◌, ◌==◌, Bool, List, [], ◌∷◌}
use Rattle.std.specs.List.{list_any, list_all}
use Rattle.tiff_dirs.specs.Kinds.{is_whole, is_fraction}
use Rattle.tag_rules.specs.declared.faults.FrameFault.{FrameFault}
use Rattle.tag_rules.specs.declared.faults.FrameFault.TheVariants.{BadEntry, Layout, Cfa, Active, Levels, Crop, Colour}
use Rattle.tag_rules.specs.declared.tags.Home.{Home}
use Rattle.tag_rules.specs.declared.tags.Home.TheVariants.{Main, Raw}
use Rattle.tag_rules.specs.declared.tags.Kinds.{Kinds}
use Rattle.tag_rules.specs.declared.tags.Kinds.TheVariants.{Byte, Short, Long, ShortOrLong, LongOrIfd, Rational}
use Rattle.tag_rules.specs.declared.tags.Kinds.TheVariants.{ShortOrRational, ShortLongOrRational, SignedRational}
use Rattle.tag_rules.specs.declared.tags.Kinds.TheVariants.{Undefined}
use Rattle.tag_rules.specs.declared.tags.Rule.{Rule}
use Rattle.tag_rules.specs.declared.tags.Tag.{Tag}
use Rattle.tag_rules.specs.declared.tags.Tag.TheVariants.{NewSubfileType, SubIfds, DngVersion, DngBackwardVersion}
use Rattle.tag_rules.specs.declared.tags.Tag.TheVariants.{PhotometricInterpretation, Compression, SamplesPerPixel}
use Rattle.tag_rules.specs.declared.tags.Tag.TheVariants.{BitsPerSample, SampleFormat, ImageWidth, ImageLength}
use Rattle.tag_rules.specs.declared.tags.Tag.TheVariants.{TileWidth, TileLength, TileOffsets, TileByteCounts}
use Rattle.tag_rules.specs.declared.tags.Tag.TheVariants.{StripOffsets, RowsPerStrip, StripByteCounts}
use Rattle.tag_rules.specs.declared.tags.Tag.TheVariants.{CfaRepeatPatternDim, CfaPattern, CfaPlaneColor, CfaLayout}
use Rattle.tag_rules.specs.declared.tags.Tag.TheVariants.{OpcodeList1, OpcodeList2, OpcodeList3, ActiveArea}
use Rattle.tag_rules.specs.declared.tags.Tag.TheVariants.{LinearizationTable, BlackLevelRepeatDim, BlackLevel}
use Rattle.tag_rules.specs.declared.tags.Tag.TheVariants.{BlackLevelDeltaH, BlackLevelDeltaV, WhiteLevel}
use Rattle.tag_rules.specs.declared.tags.Tag.TheVariants.{DefaultCropOrigin, DefaultCropSize, ColorMatrix1}
use Rattle.tag_rules.specs.declared.tags.Tag.TheVariants.{ColorMatrix2, CameraCalibration1, CameraCalibration2}
use Rattle.tag_rules.specs.declared.tags.Tag.TheVariants.{AnalogBalance, AsShotNeutral, ForwardMatrix1, ForwardMatrix2}

-- the numbers of the types (TIFF 6.0, section 2): BYTE 1, SHORT 3, LONG 4, RATIONAL 5, UNDEFINED 7, SRATIONAL 10,
-- IFD 13
abbrev pub numbers_of_kinds : Kinds → List ℕ
numbers_of_kinds Byte = 1 ∷ []
numbers_of_kinds Short = 3 ∷ []
numbers_of_kinds Long = 4 ∷ []
numbers_of_kinds ShortOrLong = 3 ∷ 4 ∷ []
numbers_of_kinds LongOrIfd = 4 ∷ 13 ∷ []
numbers_of_kinds Rational = 5 ∷ []
numbers_of_kinds ShortOrRational = 3 ∷ 5 ∷ []
numbers_of_kinds ShortLongOrRational = 3 ∷ 4 ∷ 5 ∷ []
numbers_of_kinds SignedRational = 10 ∷ []
numbers_of_kinds Undefined = 7 ∷ []

-- whether a type is one of them
abbrev pub allows : Kinds → ℕ → Bool
allows kinds kind = list_any (λ n. kind == n) (numbers_of_kinds kinds)

-- whether all of them are types of whole numbers
abbrev pub are_whole : Kinds → Bool
are_whole kinds = list_all is_whole (numbers_of_kinds kinds)

-- whether all of them are types of fractions
abbrev pub are_fractions : Kinds → Bool
are_fractions kinds = list_all is_fraction (numbers_of_kinds kinds)

-- a tag whose wrong count is a bad entry
abbrev pub early : ℕ → Home → Kinds → ℕ → ℕ → Rule
early number home kinds fewest most =
    record { number = number; home = home; kinds = kinds; fewest = fewest; most = most; miscounted = BadEntry number }

-- a later tag of the raw image's directory: a wrong count has its step's own refusal
abbrev pub later : ℕ → Kinds → ℕ → ℕ → FrameFault → Rule
later number kinds fewest most miscounted =
    record { number = number; home = Raw; kinds = kinds; fewest = fewest; most = most; miscounted = miscounted }

-- a colour tag, which has one count
abbrev pub colour : ℕ → Kinds → ℕ → Rule
colour number kinds count =
    record { number = number; home = Main; kinds = kinds; fewest = count; most = count; miscounted = Colour number }

-- as many numbers as there can be
abbrev pub any : ℕ
any = 2 ^ 32 - 1

-- each tag's number, directory, types and counts, and the refusal of another count
abbrev pub rule_of : Tag → Rule
rule_of NewSubfileType = early 254 Main ShortOrLong 1 1
rule_of SubIfds = early 330 Main LongOrIfd 1 64
rule_of DngVersion = early 50706 Main Byte 4 4
rule_of DngBackwardVersion = early 50707 Main Byte 4 4
rule_of PhotometricInterpretation = early 262 Raw Short 1 1
rule_of Compression = early 259 Raw Short 1 1
rule_of SamplesPerPixel = early 277 Raw Short 1 1
rule_of BitsPerSample = early 258 Raw Short 1 1
rule_of SampleFormat = early 339 Raw Short 1 1
rule_of ImageWidth = early 256 Raw ShortOrLong 1 1
rule_of ImageLength = early 257 Raw ShortOrLong 1 1
rule_of TileWidth = later 322 ShortOrLong 1 1 Layout
rule_of TileLength = later 323 ShortOrLong 1 1 Layout
rule_of TileOffsets = later 324 Long 0 any Layout
rule_of TileByteCounts = later 325 ShortOrLong 0 any Layout
rule_of StripOffsets = later 273 ShortOrLong 0 any Layout
rule_of RowsPerStrip = later 278 ShortOrLong 1 1 Layout
rule_of StripByteCounts = later 279 ShortOrLong 0 any Layout
rule_of CfaRepeatPatternDim = later 33421 Short 2 2 Cfa
rule_of CfaPattern = later 33422 Byte 4 4 Cfa
rule_of CfaPlaneColor = later 50710 Byte 3 3 Cfa
rule_of CfaLayout = later 50711 Short 1 1 Cfa
rule_of OpcodeList1 = early 51008 Raw Undefined 0 any
rule_of OpcodeList2 = early 51009 Raw Undefined 0 any
rule_of OpcodeList3 = early 51022 Raw Undefined 0 any
rule_of ActiveArea = later 50829 ShortOrLong 4 4 Active
rule_of LinearizationTable = later 50712 Short 1 65536 Levels
rule_of BlackLevelRepeatDim = later 50713 Short 2 2 Levels
rule_of BlackLevel = later 50714 ShortLongOrRational 1 64 Levels
rule_of BlackLevelDeltaH = later 50715 SignedRational 1 8192 Levels
rule_of BlackLevelDeltaV = later 50716 SignedRational 1 8192 Levels
rule_of WhiteLevel = later 50717 ShortOrLong 1 any Levels
rule_of DefaultCropOrigin = later 50719 ShortLongOrRational 2 2 Crop
rule_of DefaultCropSize = later 50720 ShortLongOrRational 2 2 Crop
rule_of ColorMatrix1 = colour 50721 SignedRational 9
rule_of ColorMatrix2 = colour 50722 SignedRational 9
rule_of CameraCalibration1 = colour 50723 SignedRational 9
rule_of CameraCalibration2 = colour 50724 SignedRational 9
rule_of AnalogBalance = colour 50727 Rational 3
rule_of AsShotNeutral = colour 50728 ShortOrRational 3
rule_of ForwardMatrix1 = colour 50964 SignedRational 9
rule_of ForwardMatrix2 = colour 50965 SignedRational 9
