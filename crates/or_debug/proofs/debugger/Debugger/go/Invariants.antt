use Rattle.std.proofs.Common.{◌≡◌, ◌-◌, [], length}
use Rattle.or_model.specs.Turn.{Board}
use Rattle.or_debug.specs.Standing.{CanFollow, Reaches, Stands}
use Rattle.or_debug.proofs.debugger.Debugger.go.Given as goal
use Rattle.or_debug.proofs.Going.{IsGoing}

-- nothing was hit so far
abbrev pub invariant-loop-self : goal.invariant-loop-self
invariant-loop-self l = record {
  reaches : (start : Board) → CanFollow start l.turns → Reaches start l.turns l.initial.self.turn l.initial.self.last l.initial.board.cores l.initial.board.bus
      → Reaches start l.turns l.self.turn l.self.last l.board.cores l.board.bus;
  going : (start : Board) → CanFollow start l.turns → Stands start l.turns l.initial.self l.initial.board.cores l.initial.board.bus
      → IsGoing start l.turns l.initial.self l.self l.board.cores l.board.bus;
  nothing : l.text.items ≡ [];
  config : l.board.config ≡ l.initial.board.config;
}

abbrev pub decreases-loop-self : goal.decreases-loop-self
decreases-loop-self l = length l.turns - l.self.turn
