-- What the watcher of `prof` has seen of a schedule: a profile that has as many items of each core as the core has made steps.
use Rattle.std.specs.Prelude.{◌≡◌, ℕ, ◌≤◌, Bool, List, Some, None, Result, Ok, Err, length, take, slice_get}
use Rattle.or_words.specs.declared.limits.TheConstants.{MOST_BUDGET}
use Rattle.or_elf.specs.Symbols.{symbols_of}
use Rattle.or_model.specs.Core.{Core}
use Rattle.or_model.specs.Counts.{IsWithinBudget}
use Rattle.or_model.specs.Turn.{Board, replay}
use Rattle.or_bus.specs.State.{BusState}
use Rattle.or_replay.specs.Board.{IsBoard}
use Rattle.or_prof.specs.Profile.{Profiled, IsProfile, steps_of}
use Rattle.or_recorded.specs.declared.refused.OwnFault.{OwnFault}
use Rattle.or_recorded.specs.Refused.{Fails, symbols_fault}
use Rattle.or_recorded.specs.Traces.{traces}

-- a core has made so many steps, and may make at most 2^26
pub record IsAt (made : ℕ) (core : Core) : Type 0 where
  pub steps : core.steps ≡ made
  pub within : IsWithinBudget core
  pub few : core.budget ≤ MOST_BUDGET

pub record IsLevel (profile : Profiled) (cores : List Core) (bus : BusState) : Type 0 where
  pub now : Board
  pub is : IsBoard cores bus now
  pub many : length profile.cores ≡ length cores
  pub each : (c : ℕ) (core : Core) → slice_get cores c ≡ Some core → IsAt (steps_of profile c) core

-- the board is the one after the first n turns of a schedule, and the profile is that of the traces of these turns
pub record IsCounted (start : Board) (turns : List ℕ) (n : ℕ) (profile : Profiled) (cores : List Core) (bus : BusState) : Type 0 where
  pub now : Board
  pub reached : replay start (take n turns) ≡ Some now
  pub is : IsBoard cores bus now
  pub level : IsLevel profile cores bus
  pub many : length profile.cores ≡ length start.cores
  pub profile_is : IsProfile profile (traces start (take n turns))

-- it is, or there is no profile
abbrev pub SeesProfile : Result Profiled OwnFault → Board → List ℕ → ℕ → List Core → BusState → Type 0
SeesProfile (Ok profile) start turns n cores bus = IsCounted start turns n profile cores bus
SeesProfile (Err own) start turns n cores bus = Unit {0}

-- the profile has the symbols of an image, and counts pcs or does not; or there is none for their fault or for want of memory
abbrev pub HasSymbols : Bool → Result Profiled OwnFault → List ℕ → Type 0
HasSymbols hot (Ok profile) image = (symbols_fault image ≡ None) × (profile.symbols ≡ symbols_of image) × (profile.hot ≡ hot)
HasSymbols hot (Err own) image = Fails own (symbols_fault image)
