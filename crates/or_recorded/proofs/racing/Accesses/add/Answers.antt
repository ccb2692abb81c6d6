use Rattle.std.proofs.Common.{inr}
use Rattle.or_recorded.proofs.racing.Accesses.add.Goals as goal

pub returns-in-Ok : goal.returns-in-Ok
returns-in-Ok c = inr (c.in-Ok.ensures.ok, c.in-Ok.ensures.last, c.add.ensures.cores)
