use Rattle.std.proofs.Common.{◌≡◌, ◌+◌, ◌*◌, ◌^◌, ◌≤◌, ◌++◌, length}
use Rattle.or_asm.specs.Lines.{lines_of, labels_from}
use Rattle.or_asm.proofs.passes.labels.Given as goal

abbrev pub invariant-loop-rest : goal.invariant-loop-rest
invariant-loop-rest l = record {
  told : l.labels ++ labels_from l.place (lines_of l.rest) ≡ labels_from 0x100 (lines_of l.text);
  within : length l.rest ≤ length l.text;
  room : l.place + 4 * length l.rest ≤ 2 ^ 28 + 4 * length l.text;
}

abbrev pub decreases-loop-rest : goal.decreases-loop-rest
decreases-loop-rest l = length l.rest
