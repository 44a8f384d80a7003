-- Reflection at a plane's edges. This is this project's own: Malvar, He and Cutler (2004) say nothing of the edges.
use Rattle.std.specs.Prelude.{ℕ, ◌+◌, ◌-◌, ◌*◌, nat_lt, if◌then◌else◌, ℤ, pos, negsuc}

-- the row or column of n that stands for number i, up to 2 outside: -1 stands for 1, and n for n - 2
abbrev pub reflected : ℕ → ℤ → ℕ
reflected n (pos i) = if nat_lt i n then i else 2 * n - 2 - i
reflected n (negsuc i) = i + 1
