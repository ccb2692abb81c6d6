-- What is seen of a turn: its access to RAM, and its trace.
use Rattle.std.specs.Prelude.{◌≡◌, ℕ, ◌+◌, List, [], Option, Some, None, Result, Ok, Err, length, slice_get, option_and_then, option_map, unwrap_or}
use Rattle.std.specs.List.{last_or}
use Rattle.or_model.specs.Core.{Core}
use Rattle.or_model.specs.Trace.{turn_trace}
use Rattle.or_model.specs.Turn.{Board}
use Rattle.or_bus.specs.declared.access.Access.{Access}
use Rattle.or_bus.specs.State.{BusState}
use Rattle.or_core.specs.Access.{turn_access}
use Rattle.or_replay.specs.Board.{IsCoreTurned}
use Rattle.or_replay.specs.declared.board.Refused.{Refused}
use Rattle.or_replay.specs.declared.watching.Placed.{Placed}

-- the access to RAM that a turn of core c makes, or none; there is at most one
unfoldable pub board_access : Board → ℕ → Option Access
board_access board c = option_and_then (λ core. turn_access core board.world) (slice_get board.cores c)

abbrev pub trace_of : Option Core → List ℕ
trace_of None = []
trace_of (Some core) = turn_trace core

-- the pcs before the steps of a turn of core c, in order
unfoldable pub board_trace : Board → ℕ → List ℕ
board_trace board c = trace_of (slice_get board.cores c)

-- the pc before the last step of a turn of core c
abbrev pub board_last_pc : Board → ℕ → ℕ
board_last_pc board c = unwrap_or (last_or None (board_trace board c)) 0

abbrev pub placed_at : ℕ → Access → Placed
placed_at pc access = record { pc = pc; access = access }

-- the access to RAM that a turn of core c makes, or none, with the pc of the instruction that makes it: the turn's last
unfoldable pub board_placed : Board → ℕ → Option Placed
board_placed board c = option_map (placed_at (board_last_pc board c)) (board_access board c)

-- the access of a turn that was made
abbrev pub IsObserved : Board → ℕ → Result (Option Access) Refused → Type 0
IsObserved board c (Ok access) = access ≡ board_access board c
IsObserved board c (Err refused) = Unit {0}

-- the same with the pc of the access
abbrev pub IsPlaced : Board → ℕ → Result (Option Placed) Refused → Type 0
IsPlaced board c (Ok placed) = placed ≡ board_placed board c
IsPlaced board c (Err refused) = Unit {0}

-- the trace of a turn that was made, or none
abbrev pub IsTraced : Board → ℕ → Result (Unit {0}) Refused → List ℕ → Type 0
IsTraced board c (Ok done) trace = trace ≡ board_trace board c
IsTraced board c (Err refused) trace = trace ≡ []

-- the core at a place has made as many steps as the trace has places
abbrev pub CountsSteps : List Core → ℕ → List Core → List ℕ → Type 0
CountsSteps cores place new_cores trace =
    (before after : Core) → slice_get cores place ≡ Some before → slice_get new_cores place ≡ Some after → after.steps ≡ before.steps + length trace

-- a turn of one core that was traced
pub record IsCoreTraced (core : Core) (bus : BusState) (new_core : Core) (new_bus : BusState) (trace : List ℕ) : Type 0 where
  pub turned : IsCoreTurned core bus new_core new_bus
  pub places : trace ≡ turn_trace core
  pub steps : new_core.steps ≡ core.steps + length trace
