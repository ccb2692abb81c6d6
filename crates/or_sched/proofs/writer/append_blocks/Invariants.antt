use Rattle.std.proofs.Common.{◌≡◌, ◌++◌, ◌*◌, ◌≤◌, ◌<◌, length, vec_capacity}
use Rattle.std.specs.Prelude.{All}
use Rattle.or_sched.specs.Blocks.{blocks_text}
use Rattle.or_sched.proofs.writer.append_blocks.Given as goal

abbrev pub invariant-loop-mark : goal.invariant-loop-mark
invariant-loop-mark l = record {
  text : l.out.items ++ blocks_text l.block l.marks_left l.rest ≡ l.initial.out.items ++ blocks_text l.block l.marks l.turns;
  marks : l.block * length l.marks_left ≤ length l.rest;
  cores : All (λ turn. turn < 8) l.rest;
  capacity : vec_capacity l.initial.out ≤ vec_capacity l.out;
}

abbrev pub decreases-loop-mark : goal.decreases-loop-mark
decreases-loop-mark l = length l.marks_left
