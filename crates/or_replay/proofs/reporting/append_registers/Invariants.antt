use Rattle.std.proofs.Common.{◌≡◌, ◌≤◌, ◌++◌, vec_capacity}
use Rattle.or_text.specs.Keeps.{Keeps}
use Rattle.or_replay.specs.Report.{registers_text}
use Rattle.or_replay.proofs.reporting.append_registers.Given as goal

abbrev pub invariant-loop-n : goal.invariant-loop-n
invariant-loop-n l = record {
  text : l.out.items ≡ l.initial.out.items ++ registers_text l.core l.n;
  capacity : vec_capacity l.initial.out ≤ vec_capacity l.out;
  kept : Keeps l.initial.out.items l.out.items;
}
