use Rattle.std.proofs.Common.{◌≡◌, ◌-◌, ◌+◌}
use Rattle.std.specs.Prelude.{◌++◌, length}
use Rattle.std.specs.List.{All}
use Rattle.or_model.specs.World.{World}
use Rattle.or_model.specs.Turn.{begun_within}
use Rattle.or_model.specs.Counts.{SameSettings}
use Rattle.or_bus.specs.Represents.{Represents}
use Rattle.or_core.specs.TracedSteps.{IsAligned, steps_within}
use Rattle.or_core.proofs.state.Core.trace_private_steps.Given as goal

-- what is left of the turn from here, and its steps behind those that are noted, are those of the whole turn
abbrev pub invariant-loop-noted : goal.invariant-loop-noted
invariant-loop-noted l = record {
  left : begun_within (256 - l.noted) l.self ≡ begun_within 256 l.fn.self;
  settings : SameSettings l.fn.self l.self;
  traced : (world : World) → Represents l.fn.bus world → l.steps.items ++ steps_within (256 - l.noted) l.self world ≡ steps_within 256 l.fn.self world;
  aligned : All IsAligned l.steps.items;
  each : length l.steps.items ≡ l.noted;
  made : l.self.steps ≡ l.fn.self.steps + length l.steps.items;
  after : l.bus ≡ record l.fn.bus { reads = l.bus.reads };
  tracks : (world : World) → Represents l.fn.bus world → Represents l.bus world;
}
