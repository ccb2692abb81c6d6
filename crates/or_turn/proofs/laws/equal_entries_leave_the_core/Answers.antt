use Rattle.or_turn.proofs.Replays.{entries_leave_core}
use Rattle.or_turn.proofs.laws.equal_entries_leave_the_core.Goals as goal

pub returns : goal.returns
returns c = entries_leave_core
