use Rattle.std.proofs.Common.{ℕ, List}
use Rattle.or_model.specs.Turn.{Board}
use Rattle.or_back.specs.Tells.{Tells}
use Rattle.or_back.specs.Backward.{StandsBack, state_at}
use Rattle.or_back.proofs.answering.append_answers.Given as goal
use Rattle.or_back.proofs.Sessions.{IsBackUpTo}

abbrev pub invariant-loop-command : goal.invariant-loop-command
invariant-loop-command l = record {
  tells : (start : Board) (turns : List ℕ) → Tells l.initial.history start turns → Tells l.history start turns;
  up_to : (start : Board) (turns : List ℕ) → StandsBack l.initial.history l.initial.stops start turns
      → IsBackUpTo start turns (state_at l.initial.history.at l.initial.stops) l.commands l.command-index l.initial.out.items l.out.items l.history l.stops;
}
