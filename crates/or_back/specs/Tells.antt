-- What a history keeps.
use Rattle.std.specs.Prelude.{◌≡◌, ℕ, List, Some, slice_get}
use Rattle.or_model.specs.Turn.{Board}
use Rattle.or_replay.specs.Board.{IsBoard}
use Rattle.or_debug.specs.Standing.{CanFollow, IsAfter}
use Rattle.or_back.specs.declared.history.History.{History}
use Rattle.or_back.specs.declared.history.Checkpoint.{Checkpoint}

-- each copy is the board after its turn
abbrev pub AllStand : Board → List ℕ → List Checkpoint → Type 0
AllStand start turns kept = (i : ℕ) (one : Checkpoint) → slice_get kept i ≡ Some one → IsAfter start turns one.turn one.board.cores one.board.bus

-- the history is of these turns from this board, and stands behind the first so many of them
pub record Tells (history : History) (start : Board) (turns : List ℕ) : Type 0 where
  pub turns_are : history.turns.items ≡ turns
  pub follows : CanFollow start turns
  pub first : IsBoard history.first.cores history.first.bus start
  pub here : IsAfter start turns history.at history.board.cores history.board.bus
  pub kept : AllStand start turns history.kept.items
