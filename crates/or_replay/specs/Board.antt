-- What contracts see of a board, and the written board that it is.
use Rattle.std.specs.Prelude.{◌≡◌, ◌≤◌, ◌<◌, ℕ, ◌-◌, ◌+◌, List, [], ◌∷◌, Option, Some, None, Result, Ok, Err, length, slice_get, slice_set, is_none, Bool, true, false, ◌&&◌, if◌then◌else◌}
use Rattle.or_words.specs.declared.Config.{Config}
use Rattle.or_model.specs.Core.{Core}
use Rattle.or_model.specs.Turn.{Board, turn}
use Rattle.or_model.specs.World.{World}
use Rattle.std.specs.Option.{option_or}
use Rattle.or_core.specs.Access.{turn_access}
use Rattle.or_bus.specs.State.{BusState}
use Rattle.or_bus.specs.Represents.{Represents}
use Rattle.or_replay.specs.declared.board.Refused.{Refused}
use Rattle.or_replay.specs.declared.board.Refused.TheVariants.{NoSuchCore, CoreStopped}

pub record BoardState : Type 0 where
  pub config : Config
  pub cores : List Core
  pub bus : BusState

-- the steps that the cores which run may still make
abbrev pub steps_left : List Core → ℕ
steps_left [] = 0
steps_left (core ∷ cores) = (if is_none core.stop then core.budget - core.steps else 0) + steps_left cores

-- these cores are all cores of the bus, in order of number
pub record AreOfBus (cores : List Core) (bus : BusState) : Type 0 where
  pub many : length cores ≡ bus.cores
  pub numbered : (c : ℕ) (core : Core) → slice_get cores c ≡ Some core → core.number ≡ c

-- the cores are those of the bus, in order of number, and the console has room for all their steps
pub record IsInOrder (cores : List Core) (bus : BusState) : Type 0 where
  pub many : length cores ≡ bus.cores
  pub numbered : (c : ℕ) (core : Core) → slice_get cores c ≡ Some core → core.number ≡ c
  pub room : steps_left cores ≤ bus.spare

-- the board is as the definitions say
pub record IsBoard (cores : List Core) (bus : BusState) (board : Board) : Type 0 where
  pub same_cores : cores ≡ board.cores
  pub represents : Represents bus board.world

-- a turn is made as the definitions say, or refused where they refuse it
abbrev pub IsTurned : {T : Type 0} → Option Board → Result T Refused → List Core → BusState → Type 0
IsTurned (Some board) (Ok done) cores bus = IsBoard cores bus board
IsTurned None (Err refused) cores bus = Unit {0}
IsTurned (Some board) (Err refused) cores bus = ⊥
IsTurned None (Ok done) cores bus = ⊥

-- no core runs
abbrev pub all_stopped : List Core → Bool
all_stopped [] = true
all_stopped (core ∷ cores) = (if is_none core.stop then false else true) && all_stopped cores

-- a turn is refused where the board has no core of this number, and where that core has stopped
abbrev pub RefusedBy : {T : Type 0} → List Core → ℕ → Result T Refused → Type 0
RefusedBy cores c (Ok done) = c < length cores
RefusedBy cores c (Err NoSuchCore) = length cores ≤ c
RefusedBy cores c (Err CoreStopped) = (c < length cores) × ((core : Core) → slice_get cores c ≡ Some core → is_none core.stop ≡ false)

-- a turn that is made lessens the steps that are left
abbrev pub Lessens : {T : Type 0} → Result T Refused → List Core → List Core → Type 0
Lessens (Ok done) old new = steps_left new < steps_left old
Lessens (Err refused) old new = new ≡ old

-- the core at a place runs
abbrev pub RunsAt : List Core → ℕ → Type 0
RunsAt cores c = (c < length cores) × ((core : Core) → slice_get cores c ≡ Some core → core.stop ≡ None)

-- the steps that a core may still make
abbrev pub left_of : Core → ℕ
left_of core = if is_none core.stop then core.budget - core.steps else 0

-- a turn of one core, for every world that the bus represents
pub record IsCoreTurned (core : Core) (bus : BusState) (new_core : Core) (new_bus : BusState) : Type 0 where
  pub state : (world : World) → Represents bus world → (new_core ≡ (turn core world).core) × Represents new_bus (turn core world).world
  pub number : new_core.number ≡ core.number
  pub left : left_of new_core < left_of core
  pub cores : new_bus.cores ≡ bus.cores
  pub room : bus.spare ≤ new_bus.spare + 1
  pub access : (world : World) → Represents bus world → new_bus.last ≡ option_or (turn_access core world) bus.last

-- the core at a place has made a turn, and all others are as before
abbrev pub TurnsAt : List Core → BusState → ℕ → List Core → BusState → Type 0
TurnsAt cores bus place new_cores new_bus = (core : Core) (world : World) → slice_get cores place ≡ Some core → Represents bus world
    → (new_cores ≡ slice_set cores place (turn core world).core) × Represents new_bus (turn core world).world

-- what the bus tells after the turn of the core at a place: the access of this turn, and the one before where it makes none
abbrev pub TellsAccess : List Core → BusState → ℕ → BusState → Type 0
TellsAccess cores bus place new_bus =
    (core : Core) (world : World) → slice_get cores place ≡ Some core → Represents bus world → new_bus.last ≡ option_or (turn_access core world) bus.last
