use Rattle.std.proofs.Common.{◌≡◌, ◌+◌, drop}
use Rattle.or_elf.specs.LabelText.{names_size}
use Rattle.or_elf.proofs.label_writer.strings_size.Given as goal

abbrev pub invariant-loop-label : goal.invariant-loop-label
invariant-loop-label l = record {
  sum : l.size + names_size (drop l.label-index l.labels) ≡ 17 + names_size l.labels;
}
