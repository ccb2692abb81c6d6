use Rattle.or_recorded.proofs.StepCounts.{items_are}
use Rattle.or_recorded.proofs.laws.items_are_steps.Goals as goal

pub returns : goal.returns
returns c = λ last core_number core reaches inside found. items_are c.args.config.now c.args.image.now c.args.input.now c.args.turns.now last core_number core reaches inside found
