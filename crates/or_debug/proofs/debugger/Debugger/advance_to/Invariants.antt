use Rattle.std.proofs.Common.{◌≡◌, ◌≤◌, ◌-◌}
use Rattle.or_model.specs.Turn.{Board}
use Rattle.or_debug.specs.Standing.{CanFollow, Reaches}
use Rattle.or_debug.proofs.debugger.Debugger.advance_to.Given as goal

abbrev pub invariant-loop-self : goal.invariant-loop-self
invariant-loop-self l = record {
  reaches : (start : Board) → CanFollow start l.turns → Reaches start l.turns l.initial.self.turn l.initial.self.last l.initial.board.cores l.initial.board.bus
      → Reaches start l.turns l.self.turn l.self.last l.board.cores l.board.bus;
  turn : l.initial.self.turn ≤ l.end → l.self.turn ≤ l.end;
  stops : l.self.stops ≡ l.initial.self.stops;
  config : l.board.config ≡ l.initial.board.config;
}

abbrev pub decreases-loop-self : goal.decreases-loop-self
decreases-loop-self l = l.end - l.self.turn
