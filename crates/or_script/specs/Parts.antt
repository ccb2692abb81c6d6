-- The parts of a text between the bytes at which it is cut.
use Rattle.std.specs.Prelude.{ℕ, ◌+◌, ◌==◌, List, [], Option, Some, None, length}
use Rattle.std.specs.List.{slice_split}
use Rattle.std.specs.Borrow.{Bor}

-- the parts behind the first
abbrev pub parts_behind : ℕ → Option (Bor (List ℕ)) → List (List ℕ)
parts_behind byte None = []
parts_behind byte (Some text) = slice_split (λ b. b == byte) text.now

-- how much is left to cut
abbrev pub length_behind : Option (Bor (List ℕ)) → ℕ
length_behind None = 0
length_behind (Some text) = length text.now + 1
