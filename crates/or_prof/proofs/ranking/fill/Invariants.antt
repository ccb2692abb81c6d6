use Rattle.std.proofs.Common.{◌≡◌, ◌≤◌, length, take, vec_capacity}
use Rattle.or_prof.specs.Tally.{count_in}
use Rattle.or_prof.specs.Text.{lines_of}
use Rattle.or_prof.proofs.ranking.fill.Given as goal

abbrev pub invariant-loop-function : goal.invariant-loop-function
invariant-loop-function l = record {
  lines : l.lines.items ≡ lines_of (count_in l.tally) (take l.function-index l.functions);
  few : length l.lines.items ≤ l.function-index;
  capacity : vec_capacity l.initial.lines ≤ vec_capacity l.lines;
}
