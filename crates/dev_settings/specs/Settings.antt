-- The settings of a development, which are this project's own.
use Rattle.std.specs.Prelude.{None}
use Rattle.malvar.specs.declared.Kind.TheVariants.{Malvar}
use Rattle.tone_table.specs.declared.Curve.TheVariants.{Linear}
use Rattle.dev_settings.specs.declared.settings.Settings.{Settings}
use Rattle.dev_settings.specs.declared.settings.MatrixChoice.TheVariants.{Auto}
use Rattle.dev_settings.specs.declared.settings.Change.{Change}
use Rattle.dev_settings.specs.declared.settings.Change.TheVariants.{Black, White, Demosaic, Wb, Exposure, Matrix, Tone}

-- the settings where nothing is set; an exposure of 1024 is 1
abbrev pub standard_settings : Settings
standard_settings = record {
  version = 1;
  black = None;
  white = None;
  demosaic = Malvar;
  wb = None;
  exposure = 1024;
  matrix = Auto;
  tone = Linear;
}

-- the settings after a change
abbrev pub changed : Change → Settings → Settings
changed (Black black) settings = record settings { black = black }
changed (White white) settings = record settings { white = white }
changed (Demosaic kind) settings = record settings { demosaic = kind }
changed (Wb gains) settings = record settings { wb = gains }
changed (Exposure exposure) settings = record settings { exposure = exposure }
changed (Matrix choice) settings = record settings { matrix = choice }
changed (Tone curve) settings = record settings { tone = curve }
