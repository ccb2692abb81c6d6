use Rattle.std.proofs.Common.{◌≡◌, drop}
use Rattle.or_parts.specs.MemoryMap.{register_in}
use Rattle.or_dev.proofs.mapped.register_in.Given as goal

-- the rows that are left decide
abbrev pub invariant-loop-row : goal.invariant-loop-row
invariant-loop-row l = register_in (drop l.row-index l.rows) l.cores l.pa l.width ≡ register_in l.rows l.cores l.pa l.width
