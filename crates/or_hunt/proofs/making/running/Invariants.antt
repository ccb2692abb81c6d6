use Rattle.std.proofs.Common.{◌≡◌, ◌≤◌, ◌+◌, ◌++◌, length}
use Rattle.or_hunt.specs.Drawn.{running_from}
use Rattle.or_hunt.proofs.making.running.Given as goal

-- the numbers so far, and those of the rest
abbrev pub invariant-loop-core : goal.invariant-loop-core
invariant-loop-core l = record {
  front : l.numbers.items ++ running_from l.c l.rest ≡ running_from 0 l.cores;
  place : l.c + length l.rest ≡ length l.cores;
  few : length l.numbers.items ≤ l.c;
}

abbrev pub decreases-loop-core : goal.decreases-loop-core
decreases-loop-core l = length l.rest
