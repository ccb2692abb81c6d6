use Rattle.std.proofs.Common.{◌≡◌, ◌+◌, ◌*◌, ◌^◌, ◌≤◌, length}
use Rattle.or_asm.specs.Lines.{lines_of}
use Rattle.or_asm.specs.Source.{source_from, initial_state, state_of}
use Rattle.or_asm.proofs.passes.words_of.Given as goal

abbrev pub invariant-loop-rest : goal.invariant-loop-rest
invariant-loop-rest l = record {
  told : source_from l.fn.labels l.number (state_of l.progress) (lines_of l.rest) ≡ source_from l.fn.labels 1 initial_state (lines_of l.text);
  within : length l.rest ≤ length l.text;
  room : l.progress.place + 4 * length l.rest ≤ 2 ^ 28 + 4 * length l.text;
  few : l.progress.labels_before + length l.rest ≤ length l.text;
  count : l.number + length l.rest ≤ 1 + length l.text;
}

abbrev pub decreases-loop-rest : goal.decreases-loop-rest
decreases-loop-rest l = length l.rest
