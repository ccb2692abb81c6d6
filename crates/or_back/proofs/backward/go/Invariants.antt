use Rattle.std.proofs.Common.{◌≡◌, ◌-◌, ℕ, List, [], length}
use Rattle.or_model.specs.Turn.{Board}
use Rattle.or_back.specs.Tells.{Tells}
use Rattle.or_back.specs.Backward.{StandsBack}
use Rattle.or_back.proofs.Standing.{Goes}
use Rattle.or_back.proofs.backward.go.Given as goal

-- nothing was hit so far
abbrev pub invariant-loop-history : goal.invariant-loop-history
invariant-loop-history l = record {
  tells : (start : Board) (turns : List ℕ) → Tells l.initial.history start turns → Tells l.history start turns;
  goes : (start : Board) (turns : List ℕ) → StandsBack l.initial.history l.initial.stops start turns → Goes start turns l.initial.history l.initial.stops l.history l.stops;
  nothing : l.text.items ≡ [];
}

abbrev pub decreases-loop-history : goal.decreases-loop-history
decreases-loop-history l = length l.history.turns.items - l.history.at
