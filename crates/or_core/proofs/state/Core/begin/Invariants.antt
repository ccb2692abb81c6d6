use Rattle.std.proofs.Common.{◌≡◌, ◌-◌}
use Rattle.or_model.specs.Turn.{begun_within}
use Rattle.or_model.specs.Counts.{SameSettings}
use Rattle.or_core.proofs.state.Core.begin.Given as goal

-- what is left of the turn from here is what is left of the whole turn
abbrev pub invariant-loop-made : goal.invariant-loop-made
invariant-loop-made l = record {
  left : begun_within (256 - l.made) l.self ≡ begun_within 256 l.fn.self;
  settings : SameSettings l.fn.self l.self;
}
