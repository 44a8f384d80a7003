-- The group of the pattern: the colours of the filter array (TIFF/EP, "CFARepeatPatternDim", "CFAPattern"; DNG 1.6,
-- chapter 4, "CFAPlaneColor", "CFALayout"). The four patterns that are accepted are this project's own.
use Rattle.std.specs.Prelude.{ℕ, ◌==◌, ◌&&◌, if◌then◌else◌, Bool, true, List, [], ◌∷◌, slice_index, Result, Ok}
use Rattle.std.specs.Prelude.{Err, ok_or}
use Rattle.std.specs.List.{find}
use Rattle.std.specs.Option.{option_map_or}
use Rattle.text_line.specs.Chain.{and_then}
use Rattle.tag_rules.specs.Values.{Dirs, number_or, numbers_of, required_numbers_of}
use Rattle.tag_rules.specs.declared.faults.FrameFault.{FrameFault}
use Rattle.tag_rules.specs.declared.faults.FrameFault.TheVariants.{Cfa}
use Rattle.tag_rules.specs.declared.tags.Tag.TheVariants.{CfaLayout, CfaPattern, CfaPlaneColor, CfaRepeatPatternDim}

-- the patterns of 2 by 2, row by row: 0 is red, 1 green, 2 blue
abbrev pub patterns : List (List ℕ)
patterns =
    (0 ∷ 1 ∷ 1 ∷ 2 ∷ [])
    ∷ (2 ∷ 1 ∷ 1 ∷ 0 ∷ [])
    ∷ (1 ∷ 0 ∷ 2 ∷ 1 ∷ [])
    ∷ (1 ∷ 2 ∷ 0 ∷ 1 ∷ [])
    ∷ []

-- whether the first four numbers of two lists are the same
abbrev pub is_same_pattern : List ℕ → List ℕ → Bool
is_same_pattern xs ys =
    slice_index xs 0 == slice_index ys 0
    && slice_index xs 1 == slice_index ys 1
    && slice_index xs 2 == slice_index ys 2
    && slice_index xs 3 == slice_index ys 3

-- a pattern of 2 by 2
unfoldable pub pattern_size_of : Dirs → Result (List ℕ) FrameFault
pattern_size_of dirs =
    and_then (required_numbers_of dirs CfaRepeatPatternDim) (λ dims.
    if slice_index dims 0 == 2 && slice_index dims 1 == 2 then Ok dims else Err Cfa)

-- one of the four patterns
unfoldable pub colours_of : Dirs → Result (List ℕ) FrameFault
colours_of dirs =
    and_then (required_numbers_of dirs CfaPattern) (λ xs.
    ok_or (find (λ pattern. is_same_pattern pattern xs) patterns) Cfa)

-- planes red, green, blue
abbrev pub are_red_green_blue : List ℕ → Bool
are_red_green_blue xs = slice_index xs 0 == 0 && slice_index xs 1 == 1 && slice_index xs 2 == 2

-- whether the planes of colours are red, green and blue
unfoldable pub has_plane_colours : Dirs → Result Bool FrameFault
has_plane_colours dirs =
    and_then (numbers_of dirs CfaPlaneColor) (λ found.
    if option_map_or are_red_green_blue found true then Ok true else Err Cfa)

-- whether the layout is rectangular
unfoldable pub has_rectangular_layout : Dirs → Result Bool FrameFault
has_rectangular_layout dirs =
    and_then (number_or dirs CfaLayout 1) (λ v. if v == 1 then Ok true else Err Cfa)

-- the group of the pattern
unfoldable pub pattern_of : Dirs → Result (List ℕ) FrameFault
pattern_of dirs =
    and_then (pattern_size_of dirs) (λ _.
    and_then (colours_of dirs) (λ cfa.
    and_then (has_plane_colours dirs) (λ _.
    and_then (has_rectangular_layout dirs) (λ _. Ok cfa))))
