use Rattle.std.proofs.Common.{◌≡◌, map, drop}
use Rattle.or_asm_text.specs.Names.{value_in}
use Rattle.or_asm_text.proofs.names.value_in.Given as goal

abbrev pub invariant-loop-row : goal.invariant-loop-row
invariant-loop-row l = value_in l.text (map (λ row. (row.0, row.1, row.2.now)) (drop l.row-index l.rows)) ≡ value_in l.text (map (λ row. (row.0, row.1, row.2.now)) l.rows)
