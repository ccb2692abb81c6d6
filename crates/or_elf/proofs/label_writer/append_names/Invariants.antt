use Rattle.std.proofs.Common.{◌≡◌, ◌≤◌, ◌++◌, take, vec_capacity}
use Rattle.or_elf.specs.LabelText.{names_text}
use Rattle.or_elf.proofs.label_writer.append_names.Given as goal

abbrev pub invariant-loop-label : goal.invariant-loop-label
invariant-loop-label l = record {
  text : l.out.items ≡ l.initial.out.items ++ names_text (take l.label-index l.labels);
  capacity : vec_capacity l.initial.out ≤ vec_capacity l.out;
}
