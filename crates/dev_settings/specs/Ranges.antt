-- The ranges of settings, which are this project's own.
use Rattle.std.specs.Prelude.{◌≡◌, ⊤, ◌≤◌, All, IfSome, IsTrue}
use Rattle.colour_matrix.specs.Balances.{IsGain}
use Rattle.colour_matrix.specs.Matrices.{IsEntry}
use Rattle.tone_table.specs.Knots.{are_knots}
use Rattle.tone_table.specs.declared.Curve.{Curve}
use Rattle.tone_table.specs.declared.Curve.TheVariants.{Knots}
use Rattle.dev_settings.specs.declared.command.Command.{Command}
use Rattle.dev_settings.specs.declared.command.Command.TheVariants.{Set}
use Rattle.dev_settings.specs.declared.settings.Settings.{Settings}
use Rattle.dev_settings.specs.declared.settings.MatrixChoice.{MatrixChoice}
use Rattle.dev_settings.specs.declared.settings.MatrixChoice.TheVariants.{Own}
use Rattle.dev_settings.specs.declared.settings.Change.{Change}
use Rattle.dev_settings.specs.declared.settings.Change.TheVariants.{White, Wb, Exposure, Matrix, Tone}

-- the entries of a matrix of the user's own are in their range, in 65536ths
abbrev pub MatrixInRange : MatrixChoice → Type 0
MatrixInRange (Own entries) = All IsEntry entries
MatrixInRange _ = ⊤

-- the points of a curve by knots are knots
abbrev pub CurveInRange : Curve → Type 0
CurveInRange (Knots points) = IsTrue (are_knots points)
CurveInRange _ = ⊤

-- the new value of a setting is in its range; a black level and a kind of demosaicing always are
abbrev pub ChangeInRange : Change → Type 0
ChangeInRange (White white) = IfSome white (λ level. 1 ≤ level)
ChangeInRange (Wb gains) = IfSome gains (All IsGain)
ChangeInRange (Exposure exposure) = exposure ≤ 65536
ChangeInRange (Matrix choice) = MatrixInRange choice
ChangeInRange (Tone curve) = CurveInRange curve
ChangeInRange _ = ⊤

-- each setting is in its range
pub record SettingsInRange (settings : Settings) : Type 0 where
  pub version : settings.version ≡ 1
  pub white : ChangeInRange (White settings.white)
  pub wb : ChangeInRange (Wb settings.wb)
  pub exposure : settings.exposure ≤ 65536
  pub matrix : MatrixInRange settings.matrix
  pub tone : CurveInRange settings.tone

-- a change that a line asks for is in its range
abbrev pub CommandInRange : Command → Type 0
CommandInRange (Set change) = ChangeInRange change
CommandInRange _ = ⊤
