use Rattle.std.proofs.Common.{◌≡◌, ◌++◌, take}
use Rattle.std.specs.List.{flat_map}
use Rattle.or_command_run.specs.Budgets.{budget_line}
use Rattle.or_command_run.proofs.budgets.append_lines.Given as goal

-- the lines of the cores so far
abbrev pub invariant-loop-core : goal.invariant-loop-core
invariant-loop-core l = l.out.items ≡ l.fn.out.items ++ flat_map (budget_line l.symbols l.budget) (take l.core-index l.cores)
