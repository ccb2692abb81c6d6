use Rattle.std.proofs.Common.{length}
use Rattle.or_command.proofs.saying.+then_digest.Given as goal

abbrev pub decreases-then_digest : goal.decreases-then_digest
decreases-then_digest g l = length l.bytes.now
