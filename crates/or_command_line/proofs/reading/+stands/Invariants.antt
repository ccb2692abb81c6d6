use Rattle.std.proofs.Common.{length}
use Rattle.or_command_line.proofs.reading.+stands.Given as goal

abbrev pub decreases-stands : goal.decreases-stands
decreases-stands l = length l.words.now
