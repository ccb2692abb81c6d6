use Rattle.std.proofs.Common.{◌≡◌, length}
use Rattle.or_elf.specs.Fault.{first_segment_fault}
use Rattle.or_elf.proofs.reader.check_segments.Given as goal

abbrev pub invariant-loop-segment : goal.invariant-loop-segment
invariant-loop-segment l = first_segment_fault l.size l.ram l.rest ≡ first_segment_fault l.size l.ram l.segments

abbrev pub decreases-loop-segment : goal.decreases-loop-segment
decreases-loop-segment l = length l.rest
