use Rattle.std.proofs.Common.{◌≡◌}
use Rattle.or_model.specs.Turn.{Board}
use Rattle.or_debug.specs.Standing.{CanFollow, Stands, state_of}
use Rattle.or_debug.proofs.answering.append_answers.Given as goal
use Rattle.or_debug.proofs.Sessions.{IsUpTo}

abbrev pub invariant-loop-command : goal.invariant-loop-command
invariant-loop-command l = record {
  up_to : (start : Board) → CanFollow start l.turns → Stands start l.turns l.initial.debugger l.initial.board.cores l.initial.board.bus
      → IsUpTo start l.turns (state_of l.initial.debugger) l.commands l.command-index l.initial.out.items l.out.items l.debugger l.board.cores l.board.bus;
  config : l.board.config ≡ l.initial.board.config;
}
