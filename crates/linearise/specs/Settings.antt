-- Levels under settings: this project's own.
use Rattle.std.specs.Prelude.{ℕ, ◌*◌, pos, [], ◌∷◌, Option, None, Some, unwrap_or}
use Rattle.dng_tags.specs.declared.record.Levels.{Levels}

-- levels whose black is n, a sample value, everywhere: what columns and rows add has no part in it
abbrev pub with_black : Levels → Option ℕ → Levels
with_black levels None = levels
with_black levels (Some n) =
    record {
      table = levels.table;
      black_rows = 1;
      black_cols = 1;
      black = pos (256 * n) ∷ [];
      delta_h = [];
      delta_v = [];
      white = levels.white;
    }

-- the white level that counts, a sample value
abbrev pub white_under : Levels → Option ℕ → ℕ
white_under levels white = unwrap_or white levels.white

-- levels with a white level
abbrev pub with_white : Levels → Option ℕ → Levels
with_white levels white =
    record {
      table = levels.table;
      black_rows = levels.black_rows;
      black_cols = levels.black_cols;
      black = levels.black;
      delta_h = levels.delta_h;
      delta_v = levels.delta_v;
      white = white_under levels white;
    }

-- levels with the black and the white of settings, where these are there
abbrev pub under : Levels → (black white : Option ℕ) → Levels
under levels black white = with_white (with_black levels black) white
