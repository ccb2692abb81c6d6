use Rattle.std.proofs.Common.{◌-◌, length}
use Rattle.or_replay.specs.Following.{AreStoppedUpTo}
use Rattle.or_replay.proofs.follow.find_running.Given as goal

-- the cores that were looked at have stopped
abbrev pub invariant-loop-c : goal.invariant-loop-c
invariant-loop-c l = AreStoppedUpTo l.c l.cores

abbrev pub decreases-loop-c : goal.decreases-loop-c
decreases-loop-c l = length l.cores - l.c
