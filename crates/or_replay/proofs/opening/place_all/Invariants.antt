use Rattle.std.proofs.Common.{◌≡◌, length}
use Rattle.std.specs.List.{All, fold}
use Rattle.or_elf.specs.Fault.{IsInside}
use Rattle.or_elf.specs.Placed.{place_segment}
use Rattle.or_replay.proofs.opening.place_all.Given as goal

-- the segments that are left make of this RAM what all of them make of the first
abbrev pub invariant-loop-segment : goal.invariant-loop-segment
invariant-loop-segment l = record {
  placed : fold (place_segment l.image) l.ram.bytes l.rest ≡ fold (place_segment l.image) l.initial.ram.bytes l.segments;
  inside : All (IsInside (length l.image) (length l.ram.bytes)) l.rest;
  size : length l.ram.bytes ≡ length l.initial.ram.bytes;
}

abbrev pub decreases-loop-segment : goal.decreases-loop-segment
decreases-loop-segment l = length l.rest
