use Rattle.std.proofs.Common.{◌≡◌, ◌≤◌, ◌++◌, length, vec_capacity}
use Rattle.or_elf.specs.Text.{halves_text}
use Rattle.or_elf.proofs.writer.append_halves.Given as goal

abbrev pub invariant-loop-half : goal.invariant-loop-half
invariant-loop-half l = record {
  text : l.out.items ++ halves_text l.rest ≡ l.initial.out.items ++ halves_text l.halves;
  capacity : vec_capacity l.initial.out ≤ vec_capacity l.out;
}

abbrev pub decreases-loop-half : goal.decreases-loop-half
decreases-loop-half l = length l.rest
