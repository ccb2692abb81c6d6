use Rattle.or_prof.specs.Tally.{AreEmpty}
use Rattle.or_prof.proofs.profiling.empty_tallies.Given as goal

abbrev pub invariant-loop : goal.invariant-loop
invariant-loop l = AreEmpty l.counter l.size l.tallies.items
