use Rattle.std.proofs.Common.{◌≡◌, ◌≤◌, ◌-◌, ◌++◌, ℕ, List, drop}
use Rattle.or_model.specs.Turn.{Board}
use Rattle.or_debug.specs.Turns.{turns_made}
use Rattle.or_debug.specs.BoardText.{made_text}
use Rattle.or_back.specs.Tells.{Tells}
use Rattle.or_back.proofs.backward.append_last.Given as goal

-- the turns so far are shown, and the last of them was made once more
abbrev pub invariant-loop-history : goal.invariant-loop-history
invariant-loop-history l = record {
  tells : (start : Board) (turns : List ℕ) → Tells l.fn.history start turns → Tells l.history start turns;
  turns : l.history.turns ≡ l.fn.history.turns;
  behind : l.from ≤ l.history.at;
  before : l.history.at ≤ l.at;
  text : (start : Board) (turns : List ℕ) → Tells l.fn.history start turns → l.text.items ≡ l.fn.text.items ++ made_text (drop l.from (turns_made start turns l.history.at));
}

abbrev pub decreases-loop-history : goal.decreases-loop-history
decreases-loop-history l = l.at - l.history.at
