-- What a stage that mends the pixels of a number was made of: this project's own.
use Rattle.std.specs.Prelude.{ℕ}
use Rattle.opcode_stages.specs.declared.fix_constant.FixConstant.{FixConstant}

-- the sample that marks a bad pixel
abbrev pub constant_of : FixConstant → ℕ
constant_of s = s.constant

-- the phase, 0 to 3: which pixels are green
abbrev pub phase_of : FixConstant → ℕ
phase_of s = s.phase
