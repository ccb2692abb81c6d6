use Rattle.std.proofs.Common.{◌≡◌, ℕ, Some, length}
use Rattle.std.specs.Prelude.{slice_get}
use Rattle.or_prof.specs.declared.finding.Found.{Found}
use Rattle.or_prof.proofs.finding.empty_cache.Given as goal

abbrev pub invariant-loop : goal.invariant-loop
invariant-loop l = record {
  long : length l.found.items ≡ l.counter;
  same : (k : ℕ) (entry : Found) → slice_get l.found.items k ≡ Some entry → l.first ≡ entry;
}
