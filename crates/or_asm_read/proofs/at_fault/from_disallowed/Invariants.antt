use Rattle.std.proofs.Common.{◌≡◌, length}
use Rattle.or_asm_read.specs.AtFault.{from_disallowed}
use Rattle.or_asm_read.proofs.at_fault.from_disallowed.Given as goal

abbrev pub invariant-loop-rest : goal.invariant-loop-rest
invariant-loop-rest l = from_disallowed l.rest ≡ from_disallowed l.text

abbrev pub decreases-loop-rest : goal.decreases-loop-rest
decreases-loop-rest l = length l.rest
