use Rattle.std.proofs.Common.{length}
use Rattle.or_same_file.proofs.+first_same.Given as goal

abbrev pub decreases-first_same : goal.decreases-first_same
decreases-first_same g l = length l.pairs.now
