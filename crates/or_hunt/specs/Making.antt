-- A drawn schedule that is being made.
use Rattle.std.specs.Prelude.{◌≡◌, ◌++◌, [], ◌∷◌, ℕ, List, Some, None, Bool, true, false}
use Rattle.or_model.specs.Core.{Core}
use Rattle.or_model.specs.Turn.{Board, board_turned, replay}
use Rattle.or_bus.specs.State.{BusState}
use Rattle.or_replay.specs.Board.{IsBoard, all_stopped}
use Rattle.or_replay.specs.Marks.{marks}
use Rattle.or_hunt.specs.declared.made.Made.{Made}
use Rattle.or_hunt.specs.Drawn.{drawn, stretch, stretches}

-- turns with their marks, that lead from a start to this board
pub record IsMade (start : Board) (made : Made) (cores : List Core) (bus : BusState) (now : Board) : Type 0 where
  pub reached : replay start made.turns.items ≡ Some now
  pub marked : made.marks.items ≡ marks start made.turns.items
  pub is : IsBoard cores bus now

-- core c has made a turn more
pub record IsLonger (start : Board) (old new : Made) (cores : List Core) (bus : BusState) (c : ℕ) (now : Board) : Type 0 where
  pub next : Board
  pub turned : board_turned now c ≡ Some next
  pub is_made : IsMade start new cores bus next
  pub longer : new.turns.items ≡ old.turns.items ++ c ∷ []

-- core c has made a turn more, or it has stopped
abbrev pub IsAdvanced : Board → Made → Made → List Core → BusState → ℕ → Board → Bool → Type 0
IsAdvanced start old new cores bus c now true = IsLonger start old new cores bus c now
IsAdvanced start old new cores bus c now false = (board_turned now c ≡ None) × IsMade start new cores bus now × (new.turns.items ≡ old.turns.items)

-- these turns were made
pub record IsStretched (start : Board) (old new : Made) (cores : List Core) (bus : BusState) (now : Board) (turns : List ℕ) : Type 0 where
  pub next : Board
  pub is_made : IsMade start new cores bus next
  pub longer : new.turns.items ≡ old.turns.items ++ turns
  pub stretched : replay now turns ≡ Some next

-- all stretches were made
pub record IsWhole (start : Board) (turns : List ℕ) (made : Made) (cores : List Core) (bus : BusState) : Type 0 where
  pub last : Board
  pub is_made : IsMade start made cores bus last
  pub whole : made.turns.items ≡ turns
  pub stopped : all_stopped last.cores ≡ true

-- the schedule of a seed was made from a start
abbrev pub IsDrawn : Board → ℕ → Made → List Core → BusState → Type 0
IsDrawn start seed made cores bus = IsWhole start (drawn start seed) made cores bus
