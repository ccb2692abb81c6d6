use Rattle.std.proofs.Common.{length}
use Rattle.std.specs.List.{All, flat_map}
use Rattle.or_elf.specs.Fault.{IsInside}
use Rattle.or_command.specs.Leaves.{Silent}
use Rattle.or_command_source.specs.Listing.{segment_lines}
use Rattle.or_command.specs.Pieces.{SoFar}
use Rattle.or_command_source.proofs.listing.list_segments.Given as goal

abbrev pub invariant-loop-segment : goal.invariant-loop-segment
invariant-loop-segment g l = record {
  inside : All (IsInside (length l.bytes) 268435456) l.rest;
  so_far : SoFar (flat_map (segment_lines l.bytes) l.rest) (flat_map (segment_lines l.bytes) l.segments) (g.H.Host.state l.initial.host) (g.H.Host.state l.host);
  silent : Silent (g.H.Host.state l.initial.host) (g.H.Host.state l.host);
}

abbrev pub decreases-loop-segment : goal.decreases-loop-segment
decreases-loop-segment g l = length l.rest
