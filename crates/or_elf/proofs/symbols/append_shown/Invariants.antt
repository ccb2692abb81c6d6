use Rattle.std.proofs.Common.{◌≡◌, ◌≤◌, ◌++◌, length, vec_capacity}
use Rattle.or_text.specs.Keeps.{Keeps}
use Rattle.or_elf.specs.Symbols.{name_text}
use Rattle.or_elf.proofs.symbols.append_shown.Given as goal

abbrev pub invariant-loop-byte : goal.invariant-loop-byte
invariant-loop-byte l = record {
  name : l.out.items ++ name_text l.rest ≡ l.initial.out.items ++ name_text l.text;
  capacity : vec_capacity l.initial.out ≤ vec_capacity l.out;
  kept : Keeps l.initial.out.items l.out.items;
}

abbrev pub decreases-loop-byte : goal.decreases-loop-byte
decreases-loop-byte l = length l.rest
