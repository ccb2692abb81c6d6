use Rattle.std.proofs.Common.{◌≡◌, ◌≤◌, ◌++◌, take, vec_capacity}
use Rattle.std.specs.List.{flat_map}
use Rattle.or_text.specs.Keeps.{Keeps}
use Rattle.or_prof.specs.Text.{spot_text}
use Rattle.or_prof.proofs.texts.append_spots.Given as goal

abbrev pub invariant-loop-line : goal.invariant-loop-line
invariant-loop-line l = record {
  text : l.out.items ≡ l.initial.out.items ++ flat_map spot_text (take l.line-index l.lines);
  capacity : vec_capacity l.initial.out ≤ vec_capacity l.out;
  kept : Keeps l.initial.out.items l.out.items;
}
