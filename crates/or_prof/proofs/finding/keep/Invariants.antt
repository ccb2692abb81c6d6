use Rattle.std.proofs.Common.{◌≤◌}
use Rattle.or_prof.specs.Cache.{IsCache}
use Rattle.or_prof.proofs.finding.keep.Given as goal

abbrev pub invariant-loop : goal.invariant-loop
invariant-loop l = record {
  cache : IsCache l.symbols l.found;
  behind : l.fn.pc ≤ l.next;
}
