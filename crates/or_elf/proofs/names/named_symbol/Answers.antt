use Rattle.std.proofs.Common.{rules, ◌∙◌, sym}
use Rattle.or_elf.proofs.Named.{name_found, name_passed, name_none}
use Rattle.or_elf.proofs.names.named_symbol.Goals as goal

pub returns-then-is_named-clause-first : goal.returns-then-is_named-clause-first
returns-then-is_named-clause-first c =
    sym (name_found c.args.name.now c.args.names.now c.args.bytes.now c.args.first c.loop-index.index c.args.count (search rules) (search rules)) ∙ c.loop-index.invariant

pub loop-index-preserved : goal.loop-index-preserved
loop-index-preserved c =
    name_passed c.args.name.now c.args.names.now c.args.bytes.now c.args.first c.loop-index.index c.args.count (search rules) (search rules) ∙ c.loop-index.invariant

pub returns-clause-first : goal.returns-clause-first
returns-clause-first c =
    sym (name_none c.args.name.now c.args.names.now c.args.bytes.now c.args.first c.loop-index.index c.args.count (search rules)) ∙ c.loop-index.invariant
