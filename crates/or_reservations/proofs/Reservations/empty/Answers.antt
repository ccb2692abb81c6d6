use Rattle.or_reservations.proofs.Histories.{tracks-none}
use Rattle.or_reservations.proofs.Reservations.empty.Goals as goal

pub returns-clause-tracks : goal.returns-clause-tracks
returns-clause-tracks c = tracks-none
