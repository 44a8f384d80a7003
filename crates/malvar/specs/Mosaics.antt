-- Demosaicing as a stage: this project's own.
use Rattle.std.specs.Prelude.{◌≡◌, ℕ, ◌≤◌, ◌==◌, if◌then◌else◌, List, [], ◌∷◌, slice_index}
use Rattle.plane_view.specs.declared.Shape.{Shape}
use Rattle.malvar.specs.declared.Kind.{Kind}
use Rattle.malvar.specs.declared.pattern.Pattern.{Pattern}
use Rattle.malvar.specs.declared.pattern.Pattern.TheVariants.{RedGreenGreenBlue, BlueGreenGreenRed, GreenRedBlueGreen}
use Rattle.malvar.specs.declared.pattern.Pattern.TheVariants.{GreenBlueRedGreen}
use Rattle.malvar.specs.declared.stage.Demosaic.{Demosaic}

-- planes of one colour a pixel that are large enough to be reflected
pub record IsMosaic (s : Shape) : Type 0 where
  pub planes : s.planes ≡ 1
  pub rows : 4 ≤ s.rows
  pub cols : 4 ≤ s.cols

-- the colours of a pattern
abbrev pub colours_of : Pattern → List ℕ
colours_of RedGreenGreenBlue = 0 ∷ 1 ∷ 1 ∷ 2 ∷ []
colours_of BlueGreenGreenRed = 2 ∷ 1 ∷ 1 ∷ 0 ∷ []
colours_of GreenRedBlueGreen = 1 ∷ 0 ∷ 2 ∷ 1 ∷ []
colours_of GreenBlueRedGreen = 1 ∷ 2 ∷ 0 ∷ 1 ∷ []

-- the pattern with these colours, one of the four
abbrev pub with_colours : List ℕ → Pattern
with_colours cfa =
    if slice_index cfa 0 == 0 then RedGreenGreenBlue
    else if slice_index cfa 0 == 2 then BlueGreenGreenRed
    else if slice_index cfa 1 == 0 then GreenRedBlueGreen
    else GreenBlueRedGreen

-- the kind of demosaicing: the paper's weights or the nearest samples
abbrev pub kind_of : Demosaic → Kind
kind_of s = s.kind

-- the four colours of its pattern, row by row: 0 red, 1 green, 2 blue
abbrev pub cfa_of : Demosaic → List ℕ
cfa_of s = colours_of s.pattern
