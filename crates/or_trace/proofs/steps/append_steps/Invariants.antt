use Rattle.std.proofs.Common.{◌≡◌, ◌≤◌, ◌++◌, take, vec_capacity}
use Rattle.or_text.specs.Keeps.{Keeps}
use Rattle.or_trace.specs.Text.{steps_text}
use Rattle.or_trace.proofs.steps.append_steps.Given as goal

abbrev pub invariant-loop-step : goal.invariant-loop-step
invariant-loop-step l = record {
  text : l.out.items ≡ l.initial.out.items ++ steps_text l.labels (take l.step-index l.steps);
  capacity : vec_capacity l.initial.out ≤ vec_capacity l.out;
  kept : Keeps l.initial.out.items l.out.items;
}
