use Rattle.std.proofs.Common.{◌+◌, ◌-◌, ◌≤◌, ℕ, List}
use Rattle.or_turn.specs.declared.view.Settings.{Settings}
use Rattle.or_turn.specs.Stays.{HasBusBegun, MadeTurns}
use Rattle.or_turn.proofs.shared.turning.stay.Given as goal

abbrev pub invariant-loop-left : goal.invariant-loop-left
invariant-loop-left l = record {
  few : l.left + 1 ≤ l.fn.most;
  made : (st : Settings) (turns : List ℕ) (c : ℕ) → HasBusBegun st turns c l.fn.core l.fn.follows l.fn.transfer → MadeTurns st turns c 1 (l.fn.most - l.left) l.core l.transfer;
}

abbrev pub decreases-loop-left : goal.decreases-loop-left
decreases-loop-left l = l.left
