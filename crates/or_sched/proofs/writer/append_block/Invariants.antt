use Rattle.std.proofs.Common.{◌≡◌, ◌++◌, ◌+◌, ◌≤◌, ◌<◌, length, vec_capacity}
use Rattle.std.specs.Prelude.{All}
use Rattle.or_sched.specs.Runs.{lines_text, runs_after, block_text}
use Rattle.or_sched.proofs.writer.append_block.Given as goal

abbrev pub invariant-loop-rest : goal.invariant-loop-rest
invariant-loop-rest l = record {
  text : l.out.items ++ lines_text l.left (runs_after l.core l.count l.rest) ≡ l.initial.out.items ++ block_text l.turns;
  left : l.left ≤ 16;
  core : l.core < 8;
  cores : All (λ turn. turn < 8) l.rest;
  count : l.count + length l.rest ≤ length l.turns;
  capacity : vec_capacity l.initial.out ≤ vec_capacity l.out;
}

abbrev pub decreases-loop-rest : goal.decreases-loop-rest
decreases-loop-rest l = length l.rest
