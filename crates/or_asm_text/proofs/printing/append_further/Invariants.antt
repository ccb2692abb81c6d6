use Rattle.std.proofs.Common.{◌≡◌, ◌≤◌, ◌++◌, length, vec_capacity, take}
use Rattle.or_text.specs.Keeps.{Keeps}
use Rattle.or_asm_text.specs.Texts.{further_text}
use Rattle.or_asm_text.proofs.printing.append_further.Given as goal

abbrev pub invariant-loop-slot : goal.invariant-loop-slot
invariant-loop-slot l = record {
  text : l.out.items ≡ l.initial.out.items ++ further_text l.pc l.operands (take l.slot-index l.slots);
  capacity : vec_capacity l.initial.out ≤ vec_capacity l.out;
  kept : Keeps l.initial.out.items l.out.items;
}
