-- How far a core has come, and what never changes of it.
use Rattle.std.specs.Prelude.{◌≡◌, ◌<◌, ◌≤◌, None}
use Rattle.or_model.specs.Core.{Core}

-- it is the same core of the same board, with the same settings
pub record SameSettings (old new : Core) : Type 0 where
  pub number : new.number ≡ old.number
  pub cores : new.cores ≡ old.cores
  pub budget : new.budget ≡ old.budget
  pub latched : new.latched ≡ old.latched

-- and it has made as many steps
pub record SameCounts (old new : Core) : Type 0 where
  pub steps : new.steps ≡ old.steps
  pub settings : SameSettings old new

-- a core has made at most the steps that it was given, and one that runs has steps left
pub record IsWithinBudget (core : Core) : Type 0 where
  pub steps : core.steps ≤ core.budget
  pub running : core.stop ≡ None → core.steps < core.budget
