use Rattle.or_model.specs.Turn.{Board}
use Rattle.or_replay.specs.Board.{IsBoard}
use Rattle.or_hunt.specs.Failing.{NoneFails}
use Rattle.or_hunt.proofs.searching.search.Given as goal

-- no seed so far fails
abbrev pub invariant-loop-place : goal.invariant-loop-place
invariant-loop-place l = record {
  none : (start : Board) → IsBoard l.fn.first.cores l.fn.first.bus start → NoneFails start l.from l.place;
  same : (start : Board) → IsBoard l.fn.first.cores l.fn.first.bus start → IsBoard l.first.cores l.first.bus start;
}
