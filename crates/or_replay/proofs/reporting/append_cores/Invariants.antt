use Rattle.std.proofs.Common.{◌≡◌, ◌≤◌, ◌++◌, take, vec_capacity}
use Rattle.or_text.specs.Keeps.{Keeps}
use Rattle.or_model.specs.World.{World}
use Rattle.or_bus.specs.Represents.{Represents}
use Rattle.or_replay.specs.Report.{core_blocks}
use Rattle.or_replay.proofs.reporting.append_cores.Given as goal

abbrev pub invariant-loop-core : goal.invariant-loop-core
invariant-loop-core l = record {
  text : (world : World) → Represents l.bus world → l.out.items ≡ l.initial.out.items ++ core_blocks world (take l.core-index l.cores);
  capacity : vec_capacity l.initial.out ≤ vec_capacity l.out;
  kept : Keeps l.initial.out.items l.out.items;
}
