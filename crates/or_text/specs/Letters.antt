-- The letters of cores.
use Rattle.std.specs.Prelude.{ℕ, ◌+◌, ◌%◌}

-- a core's letter: `a` for core 0
abbrev pub core_letter : ℕ → ℕ
core_letter core = 97 + core % 26
