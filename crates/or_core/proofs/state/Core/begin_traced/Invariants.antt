use Rattle.std.proofs.Common.{◌≡◌, ◌-◌, ◌+◌}
use Rattle.std.specs.Prelude.{◌++◌, length}
use Rattle.or_model.specs.Turn.{begun_within}
use Rattle.or_model.specs.Trace.{trace_within}
use Rattle.or_model.specs.Counts.{SameSettings}
use Rattle.or_core.proofs.state.Core.begin_traced.Given as goal

-- what is left of the turn from here, and its trace behind what is noted, are those of the whole turn
abbrev pub invariant-loop-noted : goal.invariant-loop-noted
invariant-loop-noted l = record {
  left : begun_within (256 - l.noted) l.self ≡ begun_within 256 l.fn.self;
  settings : SameSettings l.fn.self l.self;
  trace : l.trace.items ++ trace_within (256 - l.noted) l.self ≡ trace_within 256 l.fn.self;
  each : length l.trace.items ≡ l.noted;
  steps : l.self.steps ≡ l.fn.self.steps + length l.trace.items;
}
