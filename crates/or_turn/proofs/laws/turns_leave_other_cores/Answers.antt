use Rattle.or_turn.proofs.Replays.{others_stay}
use Rattle.or_turn.proofs.laws.turns_leave_other_cores.Goals as goal

pub returns : goal.returns
returns c = others_stay
