use Rattle.std.proofs.Common.{◌≡◌, length}
use Rattle.or_replay.specs.Failing.{some_core_fails}
use Rattle.or_replay.proofs.failing.has_failed.Given as goal

abbrev pub invariant-loop-core : goal.invariant-loop-core
invariant-loop-core l = some_core_fails l.rest ≡ some_core_fails l.cores

abbrev pub decreases-loop-core : goal.decreases-loop-core
decreases-loop-core l = length l.rest
