use Rattle.std.proofs.Common.{◌≡◌, ◌-◌, ◌+◌, None}
use Rattle.or_model.specs.Turn.{begun_within}
use Rattle.or_model.specs.Counts.{SameSettings}
use Rattle.or_core.specs.Quiet.{IsQuiet}
use Rattle.or_core.proofs.state.Core.quiet_steps.Given as goal

-- what is left of the turn from here is what is left of the whole turn, and the core is quiet as before
abbrev pub invariant-loop-made : goal.invariant-loop-made
invariant-loop-made l = record {
  left : begun_within (256 - l.made) l.self ≡ begun_within 256 l.fn.self;
  quiet : IsQuiet l.self;
  running : l.self.stop ≡ None;
  steps : l.self.steps ≡ l.fn.self.steps + l.made;
  settings : SameSettings l.fn.self l.self;
}
