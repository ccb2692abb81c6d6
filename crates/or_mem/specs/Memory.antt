-- RAM as bytes, with the number of times that it was read.
use Rattle.std.specs.Prelude.{ℕ, ◌+◌, min, List, ◌++◌, length, take, drop, replicate}

pub record RamState : Type 0 where
  pub bytes : List ℕ
  pub reads : ℕ

-- the last value of a count of 64 bits
abbrev pub last_count : ℕ
last_count = 18446744073709551615

-- after one read: the count rises, or stands at its last value
abbrev pub read_once : RamState → RamState
read_once ram = record ram { reads = min (ram.reads + 1) last_count }

-- the bytes with others in the place of those that stood from an address on
abbrev pub overwritten : List ℕ → ℕ → List ℕ → List ℕ
overwritten bytes at new = take at bytes ++ (new ++ drop (at + length new) bytes)

-- the bytes with zeros in so many places from an address on
abbrev pub zeroed : List ℕ → ℕ → ℕ → List ℕ
zeroed bytes at len = take at bytes ++ (replicate len 0 ++ drop (at + len) bytes)
