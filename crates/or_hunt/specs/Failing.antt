-- The seeds on which a program fails.
use Rattle.std.specs.Prelude.{◌≡◌, ◌≤◌, ◌<◌, ◌+◌, ℕ, Option, Some, None, Bool, true, false}
use Rattle.or_model.specs.Turn.{Board, replay}
use Rattle.or_replay.specs.Failing.{some_core_fails}
use Rattle.or_hunt.specs.Drawn.{drawn}

abbrev pub fails_after : Option Board → Bool
fails_after None = false
fails_after (Some last) = some_core_fails last.cores

-- a seed fails where some core fails at the end of its drawn schedule
abbrev pub seed_fails : Board → ℕ → Bool
seed_fails start seed = fails_after (replay start (drawn start seed))

-- none of so many seeds from this one on fails
abbrev pub NoneFails : Board → ℕ → ℕ → Type 0
NoneFails start from many = (seed : ℕ) → from ≤ seed → seed < from + many → seed_fails start seed ≡ false

-- the least of so many seeds from this one on that fails
pub record IsLeastFailing (start : Board) (from many seed : ℕ) : Type 0 where
  pub begins : from ≤ seed
  pub ends : seed < from + many
  pub fails : seed_fails start seed ≡ true
  pub least : (earlier : ℕ) → from ≤ earlier → earlier < seed → seed_fails start earlier ≡ false
