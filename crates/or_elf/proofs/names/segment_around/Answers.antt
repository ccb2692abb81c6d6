use Rattle.std.proofs.Common.{rules, ◌∙◌, sym}
use Rattle.or_elf.proofs.Named.{segment_found, segment_passed, segment_none}
use Rattle.or_elf.proofs.names.segment_around.Goals as goal

pub returns-then-has_address-clause-first : goal.returns-then-has_address-clause-first
returns-then-has_address-clause-first c =
    sym (segment_found c.args.bytes.now c.args.address c.loop-index.index c.from-count.result (search rules) (search rules)) ∙ c.loop-index.invariant

pub loop-index-preserved : goal.loop-index-preserved
loop-index-preserved c =
    segment_passed c.args.bytes.now c.args.address c.loop-index.index c.from-count.result (search rules) (search rules) ∙ c.loop-index.invariant

pub returns-clause-first : goal.returns-clause-first
returns-clause-first c =
    sym (segment_none c.args.bytes.now c.args.address c.loop-index.index c.from-count.result (search rules)) ∙ c.loop-index.invariant
