-- What the watcher of `race` has seen of a schedule.
use Rattle.std.specs.Prelude.{◌≡◌, ◌⊎◌, ◌≤◌, ℕ, Bool, List, Some, true, length, take, slice_get}
use Rattle.or_model.specs.Core.{Core}
use Rattle.or_model.specs.Turn.{Board, replay}
use Rattle.or_bus.specs.State.{BusState}
use Rattle.or_replay.specs.Board.{IsBoard}
use Rattle.or_race.specs.declared.races.Races.{Races}
use Rattle.or_race.specs.Records.{Records, cores_of, last_of}
use Rattle.or_recorded.specs.declared.racing.Accesses.{Accesses}
use Rattle.or_recorded.specs.Events.{events_made}

-- these cores are in order of number
abbrev pub AreNumbered : List Core → Type 0
AreNumbered cores = (c : ℕ) (core : Core) → slice_get cores c ≡ Some core → core.number ≡ c

-- the board is the one after the first n turns of a schedule, and the races are those of the events of these turns, with or
-- without locks
pub record AreRaces (locks : Bool) (start : Board) (turns : List ℕ) (n : ℕ) (races : Races) (cores : List Core) (bus : BusState) : Type 0 where
  pub now : Board
  pub reached : replay start (take n turns) ≡ Some now
  pub is : IsBoard cores bus now
  pub numbered : AreNumbered now.cores
  pub records : Records locks races (events_made start turns n)
  pub last : last_of races ≤ n
  pub many : cores_of races ≡ length cores

-- they are, or memory has run out
abbrev pub SeesRaces : Bool → Accesses → Board → List ℕ → ℕ → List Core → BusState → Type 0
SeesRaces locks watch start turns n cores bus = (watch.lost ≡ true) ⊎ AreRaces locks start turns n watch.races cores bus
