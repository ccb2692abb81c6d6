use Rattle.std.proofs.Common.{◌≡◌, ◌≤◌, ◌<◌, ◌-◌, ℕ, List, [], IfSome}
use Rattle.or_model.specs.Turn.{Board}
use Rattle.or_debug.specs.Standing.{points_of}
use Rattle.or_back.specs.Tells.{Tells}
use Rattle.or_back.specs.Backward.{StandsBack, Searches}
use Rattle.or_back.proofs.backward.last_hit_in.Given as goal

-- the last hit of the turns so far is known
abbrev pub invariant-loop-history : goal.invariant-loop-history
invariant-loop-history l = record {
  tells : (start : Board) (turns : List ℕ) → Tells l.fn.history start turns → Tells l.history start turns;
  turns : l.history.turns ≡ l.fn.history.turns;
  before : l.history.at ≤ l.to;
  searches : (start : Board) (turns : List ℕ) → StandsBack l.fn.history l.fn.stops start turns → Searches start turns (points_of l.fn.stops) l.from l.found l.history l.stops;
  nothing : l.lines.items ≡ [];
  place : IfSome l.found (λ place. place < l.to);
}

abbrev pub decreases-loop-history : goal.decreases-loop-history
decreases-loop-history l = l.to - l.history.at
