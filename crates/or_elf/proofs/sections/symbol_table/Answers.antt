use Rattle.std.proofs.Common.{rules, ◌∙◌, sym}
use Rattle.or_elf.proofs.Tables.{table_found, table_passed, table_none}
use Rattle.or_elf.proofs.sections.symbol_table.Goals as goal

pub returns-then-section_at-eq2-clause-first : goal.returns-then-section_at-eq2-clause-first
returns-then-section_at-eq2-clause-first c =
    sym (table_found c.args.bytes.now c.loop-index.index c.from-count.result (search rules) (search rules)) ∙ c.loop-index.invariant

pub loop-index-preserved : goal.loop-index-preserved
loop-index-preserved c =
    table_passed c.args.bytes.now c.loop-index.index c.from-count.result (search rules) (search rules) ∙ c.loop-index.invariant

pub returns-clause-first : goal.returns-clause-first
returns-clause-first c =
    sym (table_none c.args.bytes.now c.loop-index.index c.from-count.result (search rules)) ∙ c.loop-index.invariant
