use Rattle.std.proofs.Common.{◌≡◌, ◌≤◌, ◌++◌, map, vec_capacity}
use Rattle.or_prof.specs.Text.{spot_line}
use Rattle.or_prof.proofs.spotting.list_entries.Given as goal

abbrev pub invariant-loop-pc : goal.invariant-loop-pc
invariant-loop-pc l = record {
  lines : l.lines.items ++ map spot_line l.pc-iterator ≡ map spot_line l.counts.entries;
  capacity : vec_capacity l.initial.lines ≤ vec_capacity l.lines;
}
