use Rattle.std.proofs.Common.{rules, ◌∙◌, ap}
use Rattle.or_model.specs.Core.{Core}
use Rattle.or_core.proofs.Progress.{turn_progress}
use Rattle.or_core.proofs.state.Core.turn_by_steps.Goals as goal

pub returns-clause-progress : goal.returns-clause-progress
returns-clause-progress c =
    turn_progress c.args.self.now c.trace_private_steps-follows.new.self c.sample.new.self c.trace_private_steps-follows.result c.trace_private_steps-follows.ensures.begun (search rules) c.requires.running
    (ap (λ (core : Core). core.steps) c.sample.ensures ∙ c.trace_step_on_bus.ensures.made)
