use Rattle.std.proofs.Common.{◌≡◌, ◌++◌, take}
use Rattle.std.specs.List.{flat_map}
use Rattle.or_command_hunt.specs.Hunt.{failed_text}
use Rattle.or_command_hunt.proofs.telling.append_all_failed.Given as goal

-- the lines of the cores so far
abbrev pub invariant-loop-core : goal.invariant-loop-core
invariant-loop-core l = l.out.items ≡ l.fn.out.items ++ flat_map failed_text (take l.core-index l.cores)
