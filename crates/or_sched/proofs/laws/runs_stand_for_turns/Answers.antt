use Rattle.or_sched.proofs.ExpandLemmas.{expand_runs, neighbours_differ}
use Rattle.or_sched.proofs.laws.runs_stand_for_turns.Goals as goal

pub returns : goal.returns
returns c = record { turns = expand_runs c.args.turns.now; neighbours = neighbours_differ c.args.turns.now }
