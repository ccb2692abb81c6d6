use Rattle.std.proofs.Common.{◌≡◌, ◌≤◌, ℕ, List, length}
use Rattle.or_model.specs.Turn.{Board}
use Rattle.or_debug.specs.Hits.{hit_lines}
use Rattle.or_debug.specs.Standing.{points_of}
use Rattle.or_back.specs.Session.{last_hit, hit_before}
use Rattle.or_back.specs.Tells.{Tells}
use Rattle.or_back.specs.Backward.{StandsBack, StandsWith, state_at}
use Rattle.or_back.proofs.backward.hit_before.Given as goal

-- the turns from there on hit nothing
abbrev pub invariant-loop-to : goal.invariant-loop-to
invariant-loop-to l = record {
  tells : (start : Board) (turns : List ℕ) → Tells l.initial.history start turns → Tells l.history start turns;
  turns : l.history.turns ≡ l.initial.history.turns;
  within : l.to ≤ length l.initial.history.turns.items;
  stands : (start : Board) (turns : List ℕ) → StandsBack l.initial.history l.initial.stops start turns → StandsWith start turns (points_of l.initial.stops) l.history l.stops;
  left : (start : Board) (turns : List ℕ) → StandsBack l.initial.history l.initial.stops start turns
      → last_hit (hit_lines start turns (points_of l.initial.stops)) l.to ≡ hit_before start turns (state_at l.initial.history.at l.initial.stops);
}

abbrev pub decreases-loop-to : goal.decreases-loop-to
decreases-loop-to l = l.to
