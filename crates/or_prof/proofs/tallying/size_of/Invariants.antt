use Rattle.std.proofs.Common.{◌≡◌, ◌<◌, ℕ, Some}
use Rattle.std.specs.Prelude.{slice_get}
use Rattle.or_elf.specs.declared.symbols.Symbol.{Symbol as Function}
use Rattle.or_prof.proofs.tallying.size_of.Given as goal

abbrev pub invariant-loop-function : goal.invariant-loop-function
invariant-loop-function l = (k : ℕ) (function : Function) → k < l.function-index → slice_get l.functions k ≡ Some function → function.index < l.size
