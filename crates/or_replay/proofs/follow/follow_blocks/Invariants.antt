use Rattle.std.proofs.Common.{◌≡◌, ℕ, List}
use Rattle.or_model.specs.Turn.{Board}
use Rattle.or_replay.specs.Board.{IsBoard}
use Rattle.or_replay.specs.Following.{IsLed}
use Rattle.or_replay.proofs.follow.follow_blocks.Given as goal

-- the turns so far were followed and seen
abbrev pub invariant-loop-place : goal.invariant-loop-place
invariant-loop-place g l = record {
  led : (start : Board) → IsBoard l.fn.board.cores l.fn.board.bus start → IsLed l.block start l.turns l.marks l.place l.board.cores l.board.bus;
  config : l.board.config ≡ l.fn.board.config;
  some : (start : Board) × g.W.Watcher.Sees l.watcher start l.turns l.place l.board.cores l.board.bus;
  seen : (start : Board) → g.W.Watcher.Sees l.fn.watcher start l.turns 0 l.fn.board.cores l.fn.board.bus → g.W.Watcher.Sees l.watcher start l.turns l.place l.board.cores l.board.bus;
  kept : (image : List ℕ) → g.W.Watcher.Keeps l.fn.watcher image → g.W.Watcher.Keeps l.watcher image;
}
