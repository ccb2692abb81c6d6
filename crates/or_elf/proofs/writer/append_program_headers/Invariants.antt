use Rattle.std.proofs.Common.{◌≡◌, ◌≤◌, ◌<◌, ◌+◌, ◌*◌, ◌^◌, ◌++◌, length, vec_capacity}
use Rattle.or_elf.specs.Text.{word_count, program_headers}
use Rattle.or_elf.proofs.writer.append_program_headers.Given as goal

abbrev pub invariant-loop-piece : goal.invariant-loop-piece
invariant-loop-piece l = record {
  text : l.out.items ++ program_headers l.offset l.rest ≡ l.initial.out.items ++ program_headers l.start l.pieces;
  fits : l.offset + 4 * word_count l.rest < 2 ^ 32;
  capacity : vec_capacity l.initial.out ≤ vec_capacity l.out;
}

abbrev pub decreases-loop-piece : goal.decreases-loop-piece
decreases-loop-piece l = length l.rest
