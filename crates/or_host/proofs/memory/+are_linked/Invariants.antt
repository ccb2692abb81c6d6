use Rattle.std.proofs.Common.{length}
use Rattle.or_host.proofs.memory.+are_linked.Given as goal

abbrev pub decreases-are_linked : goal.decreases-are_linked
decreases-are_linked l = length l.links.now
