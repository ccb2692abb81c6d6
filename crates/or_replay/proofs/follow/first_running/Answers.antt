use Rattle.or_replay.proofs.Followed.{first_run}
use Rattle.or_replay.proofs.follow.first_running.Goals as goal

pub returns : goal.returns
returns c = first_run c.args.cores.now c.find_running.result c.find_running.ensures.found c.find_running.ensures.first
