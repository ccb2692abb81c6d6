use Rattle.std.proofs.Common.{◌≡◌, length}
use Rattle.or_host.specs.Given.{given}
use Rattle.or_host.proofs.sure.find.Given as goal

abbrev pub invariant-loop-rest : goal.invariant-loop-rest
invariant-loop-rest l = given l.rest l.name ≡ given l.files l.name

abbrev pub decreases-loop-rest : goal.decreases-loop-rest
decreases-loop-rest l = length l.rest
