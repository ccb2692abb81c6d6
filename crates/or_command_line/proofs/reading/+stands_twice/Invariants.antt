use Rattle.std.proofs.Common.{length}
use Rattle.or_command_line.proofs.reading.+stands_twice.Given as goal

abbrev pub decreases-stands_twice : goal.decreases-stands_twice
decreases-stands_twice l = length l.words.now
