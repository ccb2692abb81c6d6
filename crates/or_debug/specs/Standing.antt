-- How the debugger stands on a schedule.
use Rattle.std.specs.Prelude.{◌≡◌, ◌≤◌, ℕ, ◌+◌, List, ◌++◌, Some, length, map}
use Rattle.circular_buffer.specs.Buffer.{Buffer, buffer}
use Rattle.or_words.specs.declared.limits.TheConstants.{LAST_TURNS}
use Rattle.or_script.specs.declared.command.Command.{Command}
use Rattle.or_model.specs.Core.{Core}
use Rattle.or_model.specs.Turn.{Board, replay}
use Rattle.or_bus.specs.State.{BusState}
use Rattle.or_bus.specs.Answers.{word_shown}
use Rattle.or_replay.specs.Board.{IsBoard}
use Rattle.or_debug.specs.declared.turns.MadeTurn.{MadeTurn}
use Rattle.or_debug.specs.declared.points.Watchpoint.{Watchpoint}
use Rattle.or_debug.specs.declared.debugger.Debugger.{Debugger}
use Rattle.or_debug.specs.declared.stops.Stops.{Stops}
use Rattle.or_debug.specs.Turns.{after, turn_made, turns_made, last_of}
use Rattle.or_debug.specs.Points.{Points}
use Rattle.or_debug.specs.Hits.{ram_in, change_line, store_words, hit_lines}
use Rattle.or_debug.specs.Session.{State, state_after, answer}

-- all turns of a schedule can be made from a board
abbrev pub CanFollow : Board → List ℕ → Type 0
CanFollow start turns = (last : Board) × (replay start turns ≡ Some last)

-- the board is the one after the first n turns of a schedule
pub record IsAfter (start : Board) (turns : List ℕ) (n : ℕ) (cores : List Core) (bus : BusState) : Type 0 where
  pub now : Board
  pub reached : after start turns n ≡ Some now
  pub is : IsBoard cores bus now
  pub within : n ≤ length turns

-- and the ring has the last 64 of these turns
pub record Reaches (start : Board) (turns : List ℕ) (n : ℕ) (last : Buffer MadeTurn) (cores : List Core) (bus : BusState) : Type 0 where
  pub board : IsAfter start turns n cores bus
  pub ring : last ≡ buffer (last_of LAST_TURNS (turns_made start turns n)) LAST_TURNS

-- the turn at a place of the schedule was made
pub record IsTurnMade (start : Board) (turns : List ℕ) (place : ℕ) (made : MadeTurn) (cores : List Core) (bus : BusState) : Type 0 where
  pub board : IsAfter start turns (place + 1) cores bus
  pub made_is : made ≡ turn_made start turns place

-- and is in the ring
pub record IsMade (start : Board) (turns : List ℕ) (place : ℕ) (made : MadeTurn) (last : Buffer MadeTurn) (cores : List Core) (bus : BusState) : Type 0 where
  pub reaches : Reaches start turns (place + 1) last cores bus
  pub made_is : made ≡ turn_made start turns place

-- a watchpoint with the word that RAM has
abbrev pub seen : List ℕ → Watchpoint → Watchpoint
seen ram point = record { address = point.address; word = word_shown ram point.address }

-- the line of a watchpoint whose word may have changed
abbrev pub seen_line : ℕ → List ℕ → Watchpoint → List ℕ
seen_line turn ram point = change_line turn point.address point.word (word_shown ram point.address)

-- the line of a store point
abbrev pub seen_store : MadeTurn → List ℕ → Watchpoint → List ℕ
seen_store made ram point = store_words made point.address point.word (word_shown ram point.address)

abbrev pub addresses : List Watchpoint → List ℕ
addresses points = map (λ point. point.address) points

abbrev pub points_of : Stops → Points
points_of stops = record { breaks = stops.breaks.items; watches = addresses stops.watches.items; stores = addresses stops.stores.items }

-- each of them has the word of RAM
abbrev pub AllSeen : List ℕ → List Watchpoint → Type 0
AllSeen ram points = map (seen ram) points ≡ points

pub record HasSeen (ram : List ℕ) (stops : Stops) : Type 0 where
  pub watches : AllSeen ram stops.watches.items
  pub stores : AllSeen ram stops.stores.items

-- the same points, which have seen RAM
pub record HasLooked (ram : List ℕ) (old new : Stops) : Type 0 where
  pub seen_is : HasSeen ram new
  pub points : points_of new ≡ points_of old

-- the state that a debugger is in
abbrev pub state_of : Debugger → State
state_of debugger = record { turn = debugger.turn; points = points_of debugger.stops }

-- a debugger that stands on a schedule: its points have seen RAM
pub record Stands (start : Board) (turns : List ℕ) (debugger : Debugger) (cores : List Core) (bus : BusState) : Type 0 where
  pub reaches : Reaches start turns debugger.turn debugger.last cores bus
  pub seen_is : HasSeen (ram_in (after start turns debugger.turn)) debugger.stops

-- the next turn was made, with the lines of what it hits
pub record IsFollowed (start : Board) (turns : List ℕ) (old : Debugger) (before : List ℕ) (new : Debugger) (later : List ℕ) (cores : List Core) (bus : BusState) : Type 0 where
  pub stands : Stands start turns new cores bus
  pub state : state_of new ≡ record { turn = old.turn + 1; points = points_of old.stops }
  pub text : later ≡ before ++ hit_lines start turns (points_of old.stops) old.turn

-- a command was answered, and the debugger stands behind it
pub record IsAnswered (start : Board) (turns : List ℕ) (old : Debugger) (command : Command) (written : List ℕ) (new : Debugger) (cores : List Core) (bus : BusState) : Type 0 where
  pub stands : Stands start turns new cores bus
  pub state : state_of new ≡ state_after start turns (state_of old) command
  pub text : written ≡ answer start turns (state_of old) command
