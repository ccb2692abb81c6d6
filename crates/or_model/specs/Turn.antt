-- Turns of cores, and the replay of a schedule.
use Rattle.std.specs.Prelude.{ℕ, zero, suc, Bool, false, ◌&&◌, if◌then◌else◌, List, [], ◌∷◌, ◌++◌, Option, Some, None, is_none, slice_set, slice_get}
use Rattle.or_words.specs.declared.Config.{Config}
use Rattle.or_words.specs.declared.limits.TheConstants.{MOST_PRIVATE_STEPS}
use Rattle.or_parts.specs.Interrupts.{status_sampled}
use Rattle.or_model.specs.Core.{Core, reset_core}
use Rattle.or_model.specs.World.{World}
use Rattle.or_parts.specs.Devices.{interrupt_lines}
use Rattle.or_model.specs.DataAccess.{State}
use Rattle.or_model.specs.Step.{step, is_private, private_step}

-- whether the core makes its next step by itself
unfoldable pub steps_alone : Core → Bool
steps_alone core = is_none core.stop && is_private core

-- the first half of a turn: the core, and whether a step on the bus follows
pub record Begun : Type 0 where
  pub core : Core
  pub follows : Bool

-- up to so many private steps
unfoldable pub begun_within : ℕ → Core → Begun
begun_within zero core = record { core = core; follows = false }
begun_within (suc left) core = if steps_alone core then begun_within left (private_step core) else record { core = core; follows = is_none core.stop }

-- the private steps of a turn
unfoldable pub turn_begun : Core → Begun
turn_begun core = begun_within MOST_PRIVATE_STEPS core

-- the PIC samples the board's interrupt lines
abbrev pub sampled : Core → ℕ → Core
sampled core lines = record core { picsr = status_sampled core.latched core.picsr lines }

abbrev pub with_lines_sampled : State → State
with_lines_sampled state = record { core = sampled state.core (interrupt_lines state.world.devices state.core.number); world = state.world }

-- the second half of a turn: the step on the bus, if one follows, and the sampling
unfoldable pub turn_ended : Core → World → Bool → State
turn_ended core world follows = with_lines_sampled (if follows then step core world else record { core = core; world = world })

-- a whole turn of one core
unfoldable pub turn : Core → World → State
turn core world = let first = turn_begun core in turn_ended first.core world first.follows

-- the cores in order of number, and the world round them
pub record Board : Type 0 where
  pub cores : List Core
  pub world : World

abbrev pub with_core : Board → ℕ → State → Board
with_core board c state = record { cores = slice_set board.cores c state.core; world = state.world }

-- a core that has no stop may make a turn
abbrev pub running : Option Core → Option Core
running None = None
running (Some core) = if is_none core.stop then Some core else None

abbrev pub board_turned_by : Board → ℕ → Option Core → Option Board
board_turned_by board c None = None
board_turned_by board c (Some core) = Some (with_core board c (turn core board.world))

-- one turn of core c; none where c is no core of the board or has stopped
unfoldable pub board_turned : Board → ℕ → Option Board
board_turned board c = board_turned_by board c (running (slice_get board.cores c))

abbrev pub and_then : Option Board → (Board → Option Board) → Option Board
and_then None next = None
and_then (Some board) next = next board

-- REPLAY: the turns of a schedule in order; none where one of them is refused
abbrev pub replay : Board → List ℕ → Option Board
replay board [] = Some board
replay board (c ∷ later) = and_then (board_turned board c) (λ next. replay next later)

-- the cores below a number, at reset
unfoldable pub reset_cores : Config → ℕ → List Core
reset_cores config zero = []
reset_cores config (suc count) = reset_cores config count ++ reset_core config count ∷ []
