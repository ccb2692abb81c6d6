use Rattle.std.proofs.Common.{◌≡◌, ◌≤◌, ◌+◌, ◌++◌, ℕ, List, length, take, vec_capacity}
use Rattle.or_prof.specs.Profile.{AreCounts}
use Rattle.or_prof.proofs.tallying.count_all.Given as goal

abbrev pub invariant-loop-pc : goal.invariant-loop-pc
invariant-loop-pc l = record {
  counts : (items : List ℕ) → AreCounts l.hot l.initial.finder items l.initial.tally → AreCounts l.hot l.initial.finder (items ++ take l.pc-index l.trace) l.tally;
  steps : l.tally.steps ≡ l.initial.tally.steps + l.pc-index;
  size : length l.tally.by_index ≡ length l.initial.tally.by_index;
  symbols : l.finder ≡ l.initial.finder;
  lines : length l.tally.spots ≤ vec_capacity l.lines;
  capacity : vec_capacity l.initial.lines ≤ vec_capacity l.lines;
}
