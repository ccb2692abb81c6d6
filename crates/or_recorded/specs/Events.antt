-- The events of a schedule: the accesses to RAM of its turns, numbered by their turn from 1.
use Rattle.std.specs.Prelude.{ℕ, zero, suc, ◌+◌, List, [], ◌++◌, Option, length, take, slice_index, option_and_then, option_map, option_to_list}
use Rattle.or_model.specs.Turn.{Board, replay}
use Rattle.or_replay.specs.declared.watching.Placed.{Placed}
use Rattle.or_replay.specs.Watching.{board_placed}
use Rattle.or_race.specs.Event.{Event, event}

-- the access of the turn behind the first so many, on the board to which these lead, with the pc of its instruction, or none
abbrev pub access_made : Board → List ℕ → ℕ → Option Placed
access_made start turns n = option_and_then (λ board. board_placed board (slice_index turns n)) (replay start (take n turns))

-- the event of an access with its pc
abbrev pub event_at : ℕ → Placed → Event
event_at turn placed = event turn placed.pc placed.access

-- the event of this turn, if it makes an access
abbrev pub event_made : Board → List ℕ → ℕ → List Event
event_made start turns n = option_to_list (option_map (event_at (n + 1)) (access_made start turns n))

-- the events of the first so many turns
abbrev pub events_made : Board → List ℕ → ℕ → List Event
events_made start turns zero = []
events_made start turns (suc n) = events_made start turns n ++ event_made start turns n

-- THE EVENTS of a schedule
abbrev pub events_of : Board → List ℕ → List Event
events_of start turns = events_made start turns (length turns)
