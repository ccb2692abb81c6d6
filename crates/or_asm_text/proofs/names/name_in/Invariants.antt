use Rattle.std.proofs.Common.{◌≡◌, map, drop}
use Rattle.or_asm_text.specs.Names.{name_in}
use Rattle.or_asm_text.proofs.names.name_in.Given as goal

abbrev pub invariant-loop-row : goal.invariant-loop-row
invariant-loop-row l = name_in (map (λ row. (row.0, row.1, row.2.now)) (drop l.row-index l.rows)) l.word ≡ name_in (map (λ row. (row.0, row.1, row.2.now)) l.rows) l.word
