-- How the code of a core and of the bus follows the definitions.
use Rattle.std.specs.Prelude.{◌≡◌, ℕ, ◌+◌, ◌%◌, ◌≤◌, Result, Ok, Err}
use Rattle.or_parts.specs.declared.Cause.{Cause}
use Rattle.or_model.specs.declared.Route.{Route}
use Rattle.or_model.specs.declared.Route.TheVariants.{Refused, At}
use Rattle.or_model.specs.Core.{Core}
use Rattle.or_model.specs.DataAccess.{State, Outcome}
use Rattle.or_bus.specs.State.{BusState}
use Rattle.or_bus.specs.Represents.{Represents}

-- the core and the bus are in the state that the definitions name
pub record IsState (state : State) (core : Core) (bus : BusState) : Type 0 where
  pub same_core : core ≡ state.core
  pub represents : Represents bus state.world

-- what an access came to is what the definitions say
abbrev pub IsOutcome : Outcome → Result (Unit {0}) Cause → Core → BusState → Type 0
IsOutcome (Ok next) (Ok _) core bus = IsState next core bus
IsOutcome (Err cause) (Err e) core bus = e ≡ cause
IsOutcome (Ok next) (Err e) core bus = ⊥
IsOutcome (Err cause) (Ok _) core bus = ⊥

-- what a call leaves of a bus: its cores, and the room for console but for one byte at most
pub record KeepsBus (old new : BusState) : Type 0 where
  pub cores : new.cores ≡ old.cores
  pub spare : old.spare ≤ new.spare + 1

-- where an access goes is aligned for its width, and a cached one is in the lower half of the addresses
abbrev pub IsAlignedBy : ℕ → Route → Type 0
IsAlignedBy n (Refused cause) = Unit {0}
IsAlignedBy n (At pa cached) = pa % n ≡ 0
