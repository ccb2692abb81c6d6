-- Rows of cores by their numbers.
use Rattle.std.specs.Prelude.{◌≡◌, ℕ, ◌<◌, List, length}
use Rattle.or_model.specs.Core.{Core}
use Rattle.or_turn.specs.Schedules.{core_at}

-- core n stands in the row
abbrev pub Numbered : ℕ → List Core → Type 0
Numbered n row = (i : ℕ) × (i < length row) × ((core_at row i).number ≡ n)

abbrev pub Among : Core → List Core → Type 0
Among core row = (i : ℕ) × (i < length row) × (core_at row i ≡ core)
