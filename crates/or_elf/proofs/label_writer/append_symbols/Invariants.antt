use Rattle.std.proofs.Common.{◌≡◌, ◌≤◌, ◌+◌, ◌++◌, drop, vec_capacity}
use Rattle.or_elf.specs.LabelText.{names_size, symbols_text}
use Rattle.or_elf.proofs.label_writer.append_symbols.Given as goal

abbrev pub invariant-loop-label : goal.invariant-loop-label
invariant-loop-label l = record {
  text : l.out.items ++ symbols_text l.name (drop l.label-index l.labels) ≡ l.initial.out.items ++ symbols_text 17 l.labels;
  fits : l.name + names_size (drop l.label-index l.labels) ≤ 4194321;
  capacity : vec_capacity l.initial.out ≤ vec_capacity l.out;
}
