use Rattle.std.proofs.Common.{◌≡◌, ◌+◌, ◌*◌, length}
use Rattle.or_elf.specs.Text.{word_count}
use Rattle.or_elf.specs.LabelText.{symbol_table_start}
use Rattle.or_elf.proofs.label_writer.program_size.Given as goal

abbrev pub invariant-loop-piece : goal.invariant-loop-piece
invariant-loop-piece l = record {
  sum : l.size + 32 * length l.rest + 4 * word_count l.rest ≡ symbol_table_start l.pieces;
}

abbrev pub decreases-loop-piece : goal.decreases-loop-piece
decreases-loop-piece l = length l.rest
