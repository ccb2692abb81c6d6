use Rattle.std.proofs.Common.{◌≡◌, ℕ, length}
use Rattle.std.specs.BTreeMap.{get}
use Rattle.std.specs.Ordering.{nat_cmp}
use Rattle.or_elf.specs.Fault.{or_else}
use Rattle.or_elf.specs.Symbols.{innermost}
use Rattle.or_elf.specs.Labels.{if_begins}
use Rattle.or_elf.proofs.labels.starts_of.Given as goal

abbrev pub invariant-loop-function : goal.invariant-loop-function
invariant-loop-function l = (pc : ℕ) → or_else (get nat_cmp l.starts pc) (if_begins pc (innermost l.rest pc 1)) ≡ if_begins pc (innermost l.functions pc 1)

abbrev pub decreases-loop-function : goal.decreases-loop-function
decreases-loop-function l = length l.rest
