-- The parts of a stage as its parameters: this project's own.
use Rattle.std.specs.Prelude.{pos}
use Rattle.linearise.specs.inner.Held.{blacks_in}
use Rattle.linearise.specs.Parameters.{Parameters}
use Rattle.linearise.specs.declared.parts.Parts.{Parts}

-- what the parts stand for
abbrev pub seen : Parts → Parameters
seen s =
    record {
      rows = s.blacks.rows;
      cols = s.blacks.cols;
      table = s.table;
      blacks = blacks_in s.blacks;
      span = pos s.scale.span;
    }
