use Rattle.std.proofs.Common.{◌≡◌, ◌≤◌, ◌++◌, take, vec_capacity}
use Rattle.std.specs.List.{flat_map}
use Rattle.or_debug.specs.Hits.{break_line}
use Rattle.or_debug.proofs.points.append_breaks.Given as goal

abbrev pub invariant-loop-point : goal.invariant-loop-point
invariant-loop-point l = record {
  text : l.text.items ≡ l.initial.text.items ++ flat_map (break_line l.made) (take l.point-index l.points);
  capacity : vec_capacity l.initial.text ≤ vec_capacity l.text;
}
