use Rattle.std.proofs.Common.{◌≡◌, ◌+◌}
use Rattle.or_model.specs.Core.{Core}
use Rattle.or_model.specs.Counts.{SameSettings}
use Rattle.or_replay.specs.Stepping.{IsInside, step_pause}
use Rattle.or_replay.proofs.stepping.begin_until.Given as goal

abbrev pub invariant-loop-made : goal.invariant-loop-made
invariant-loop-made l = record {
  inside : (first : Core) → IsInside first l.steps l.initial.core → IsInside first l.made l.core;
  none : (first : Core) → IsInside first l.steps l.initial.core → step_pause l.points l.most l.number first l.steps ≡ step_pause l.points l.most l.number first l.made;
  same : l.made ≡ l.steps → l.core ≡ l.initial.core;
  settings : SameSettings l.initial.core l.core;
  count : l.initial.core.steps + l.made ≡ l.core.steps + l.steps;
}
