-- Turns that are begun and not ended: behind some steps of a turn only its core differs from the board before it.
use Rattle.std.specs.Prelude.{◌≡◌, ◌≤◌, ◌<◌, ℕ, zero, suc, ◌+◌, ◌-◌, ◌==◌, ◌&&◌, ◌||◌, Bool, true, false, if◌then◌else◌, List, [], ◌∷◌, ◌++◌, Option, Some, None, drop, slice_get, slice_set, option_and_then}
use Rattle.std.specs.List.{list_any}
use Rattle.or_words.specs.declared.limits.TheConstants.{MOST_PRIVATE_STEPS}
use Rattle.or_model.specs.Core.{Core}
use Rattle.or_model.specs.World.{World}
use Rattle.or_model.specs.Step.{private_step}
use Rattle.or_model.specs.Trace.{trace_within, bus_trace, turn_trace}
use Rattle.or_model.specs.Turn.{Board, turn, turn_begun, begun_within, board_turned}
use Rattle.or_bus.specs.State.{BusState}
use Rattle.or_bus.specs.Represents.{Represents}
use Rattle.or_bus.specs.declared.access.Access.{Access}
use Rattle.or_core.specs.Access.{turn_access}
use Rattle.or_replay.specs.Board.{IsBoard, left_of}
use Rattle.or_replay.specs.Watching.{board_access}
use Rattle.or_replay.specs.declared.stepping.Breakpoint.{Breakpoint}
use Rattle.or_replay.specs.declared.stepping.Pause.{Pause}
use Rattle.or_replay.specs.declared.stepping.Pause.TheVariants.{Behind, Begun}
use Rattle.or_replay.specs.declared.stepping.Until.{Until}
use Rattle.or_replay.specs.declared.stepping.Until.TheVariants.{Inside, Ended}

-- the core after so many private steps
unfoldable pub stepped : ℕ → Core → Core
stepped zero core = core
stepped (suc n) core = private_step (stepped n core)

-- the core of a breakpoint; none is every core
abbrev pub is_core_of : Option ℕ → ℕ → Bool
is_core_of None core = true
is_core_of (Some c) core = core == c

-- a step of the core that leaves its pc there hits the breakpoint
abbrev pub is_hit : ℕ → ℕ → Breakpoint → Bool
is_hit core pc point = pc == point.pc && is_core_of point.core core

-- it hits one of the breakpoints
abbrev pub hits_any : List Breakpoint → ℕ → ℕ → Bool
hits_any points core pc = list_any (is_hit core pc) points

-- the number of the step behind which a turn pauses in any case, if one is given
abbrev pub is_most : Option ℕ → ℕ → Bool
is_most None step = false
is_most (Some most) step = step == most

-- a turn of core c pauses behind its step of this number that leaves its pc there
abbrev pub is_pause : List Breakpoint → Option ℕ → ℕ → ℕ → ℕ → Bool
is_pause points most c step pc = is_most most step || hits_any points c pc

-- the first place of a list, counted from n, at which an item passes a test
abbrev pub first_from : {X : Type 0} → (ℕ → X → Bool) → ℕ → List X → Option ℕ
first_from test n [] = None
first_from test n (x ∷ xs) = if test n x then Some n else first_from test (n + 1) xs

-- The first step of a turn of core c, behind so many, that pauses it and is not the turn's last: the pc that it leaves is
-- the one before the next step, which stands in the trace.
unfoldable pub step_pause : List Breakpoint → Option ℕ → ℕ → Core → ℕ → Option ℕ
step_pause points most c core steps = first_from (is_pause points most c) (steps + 1) (drop (steps + 1) (turn_trace core))

unfoldable pub board_step_pause : List Breakpoint → Option ℕ → Board → ℕ → ℕ → Option ℕ
board_step_pause points most before c steps = option_and_then (λ core. step_pause points most c core steps) (slice_get before.cores c)

-- the board before a turn of core c, with the core behind so many steps of it
abbrev pub with_steps : Board → ℕ → ℕ → Core → Board
with_steps before c steps core = record { cores = slice_set before.cores c (stepped steps core); world = before.world }

unfoldable pub board_stepped : Board → ℕ → ℕ → Option Board
board_stepped before c steps = option_and_then (λ core. Some (with_steps before c steps core)) (slice_get before.cores c)

-- the pcs before the steps that are left, with at most so many private ones
abbrev pub rest_trace : ℕ → Core → List ℕ
rest_trace left core = trace_within left core ++ bus_trace (begun_within left core)

-- the core has made so many steps of its turn, all of them private
pub record IsInside (first : Core) (steps : ℕ) (core : Core) : Type 0 where
  pub few : steps ≤ MOST_PRIVATE_STEPS
  pub core_is : core ≡ stepped steps first
  pub trace : drop steps (turn_trace first) ≡ rest_trace (MOST_PRIVATE_STEPS - steps) core
  pub begun : turn_begun first ≡ begun_within (MOST_PRIVATE_STEPS - steps) core

-- and goes on
pub record GoesOn (first : Core) (steps : ℕ) (core : Core) : Type 0 where
  pub inside : IsInside first steps core
  pub runs : core.stop ≡ None
  pub fewer : steps < MOST_PRIVATE_STEPS

-- the private steps of a turn ended at a pause, or are all made
abbrev pub IsPaused : List Breakpoint → Option ℕ → ℕ → Core → ℕ → Pause → Core → Type 0
IsPaused points most c first steps (Behind made) core = (step_pause points most c first steps ≡ Some made) × GoesOn first made core
IsPaused points most c first steps (Begun follows) core = (step_pause points most c first steps ≡ None) × (turn_begun first ≡ record { core = core; follows = follows })

-- a step on the bus follows
abbrev pub Follows : Pause → Type 0
Follows (Behind made) = ⊥
Follows (Begun follows) = follows ≡ true

-- the steps of the core that follow by themselves
abbrev pub steps_ahead : Pause → ℕ
steps_ahead (Behind made) = 0
steps_ahead (Begun follows) = if follows then 1 else 0

-- a core's turn has ended, with its access to RAM
pub record IsCoreEnded (first : Core) (access : Option Access) (bus : BusState) (new_core : Core) (new_bus : BusState) : Type 0 where
  pub state : (world : World) → Represents bus world → (new_core ≡ (turn first world).core) × Represents new_bus (turn first world).world
  pub access_is : (world : World) → Represents bus world → access ≡ turn_access first world

-- a core was taken to the first pause, or through its turn
abbrev pub IsCoreUntil : List Breakpoint → Option ℕ → ℕ → Core → ℕ → Until → BusState → Core → BusState → Type 0
IsCoreUntil points most c first steps (Ended access) bus new_core new_bus =
    (step_pause points most c first steps ≡ None) × IsCoreEnded first access bus new_core new_bus
IsCoreUntil points most c first steps (Inside made) bus new_core new_bus = (step_pause points most c first steps ≡ Some made) × (GoesOn first made new_core × (new_bus ≡ bus))

-- what keeps the cores of a board in order, with room for their steps
pub record KeepsOrder (core : Core) (bus : BusState) (new_core : Core) (new_bus : BusState) : Type 0 where
  pub number : new_core.number ≡ core.number
  pub left : left_of new_core < left_of core
  pub cores : new_bus.cores ≡ bus.cores
  pub room : bus.spare ≤ new_bus.spare + 1

-- the board before a turn of core c, of which so many steps are made
pub record HasBegun (before : Board) (c steps : ℕ) (cores : List Core) (bus : BusState) : Type 0 where
  pub first : Core
  pub at : slice_get before.cores c ≡ Some first
  pub running : first.stop ≡ None
  pub core : Core
  pub goes_on : GoesOn first steps core
  pub cores_are : cores ≡ slice_set before.cores c core
  pub represents : Represents bus before.world

-- a turn of core c has ended, with its access to RAM
pub record HasEnded (before : Board) (c : ℕ) (access : Option Access) (cores : List Core) (bus : BusState) : Type 0 where
  pub next : Board
  pub turned : board_turned before c ≡ Some next
  pub is : IsBoard cores bus next
  pub access_is : access ≡ board_access before c

-- core c of the board was taken to the first pause of its turn, or through it
abbrev pub IsTurnedUntil : List Breakpoint → Option ℕ → Board → ℕ → ℕ → Until → List Core → BusState → Type 0
IsTurnedUntil points most before c steps (Ended access) cores bus = (board_step_pause points most before c steps ≡ None) × HasEnded before c access cores bus
IsTurnedUntil points most before c steps (Inside made) cores bus = (board_step_pause points most before c steps ≡ Some made) × HasBegun before c made cores bus
