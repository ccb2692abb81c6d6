use Rattle.std.proofs.Common.{◌≡◌, ◌≤◌, ◌<◌, ℕ, ◌^◌, length}
use Rattle.or_elf.specs.Symbols.{innermost}
use Rattle.or_prof.proofs.finding.end_of.Given as goal

-- what holds of the functions that are left holds of all
abbrev pub invariant-loop-function : goal.invariant-loop-function
invariant-loop-function l = record {
  same : (p : ℕ) → l.pc ≤ p → p < l.end → innermost l.rest p 1 ≡ innermost l.rest l.pc 1 → innermost l.functions p 1 ≡ innermost l.functions l.pc 1;
  limit : l.end ≤ 2 ^ 32;
}

abbrev pub decreases-loop-function : goal.decreases-loop-function
decreases-loop-function l = length l.rest
