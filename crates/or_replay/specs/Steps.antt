-- The steps of a turn on a board.
use Rattle.std.specs.Prelude.{◌≡◌, ℕ, List, [], Option, Some, None, Result, Ok, Err, slice_get}
use Rattle.std.specs.List.{All}
use Rattle.or_model.specs.Core.{Core}
use Rattle.or_model.specs.World.{World}
use Rattle.or_model.specs.Turn.{Board}
use Rattle.or_bus.specs.State.{BusState}
use Rattle.or_bus.specs.Represents.{Represents}
use Rattle.or_core.specs.TracedSteps.{IsAligned, turn_steps}
use Rattle.or_core.specs.declared.traced_steps.TracedStep.{TracedStep}
use Rattle.or_replay.specs.Board.{IsCoreTurned}
use Rattle.or_replay.specs.declared.board.Refused.{Refused}

abbrev pub steps_of : World → Option Core → List TracedStep
steps_of world None = []
steps_of world (Some core) = turn_steps core world

-- the steps of a turn of core c, in order
unfoldable pub board_steps : Board → ℕ → List TracedStep
board_steps board c = steps_of board.world (slice_get board.cores c)

-- the steps of a turn that was made, or none
abbrev pub AreStepsOf : Board → ℕ → Result (Unit {0}) Refused → List TracedStep → Type 0
AreStepsOf board c (Ok done) steps = steps ≡ board_steps board c
AreStepsOf board c (Err refused) steps = steps ≡ []

-- a turn of one core whose steps were listed
pub record IsCoreListed (core : Core) (bus : BusState) (new_core : Core) (new_bus : BusState) (steps : List TracedStep) : Type 0 where
  pub turned : IsCoreTurned core bus new_core new_bus
  pub listed : (world : World) → Represents bus world → steps ≡ turn_steps core world
  pub aligned : All IsAligned steps
