use Rattle.std.proofs.Common.{◌≡◌, ◌∷◌, ap, ◌∙◌, rules}
use Rattle.std.specs.BTreeMap.{get}
use Rattle.std.specs.Ordering.{nat_cmp}
use Rattle.or_elf.specs.Fault.{or_else}
use Rattle.or_elf.specs.Symbols.{innermost}
use Rattle.or_elf.specs.Labels.{if_begins}
use Rattle.or_elf.proofs.LabelMaps.{gathered_next, gathered_all}
use Rattle.or_elf.proofs.labels.starts_of.Goals as goal

pub loop-function-preserved : goal.loop-function-preserved
loop-function-preserved c =
    let first : c.loop-function.rest.now ≡ c.in-Some.function.now ∷ c.in-Some.others.now = search rules in
    λ pc. ap (λ found. or_else found (if_begins pc (innermost c.in-Some.others.now pc 1))) (c.in_ok-add_start.ensures pc)
    ∙ gathered_next (get nat_cmp c.loop-function.starts pc) pc c.loop-function.rest.now c.in-Some.function.now c.in-Some.others.now first
    ∙ c.loop-function.invariant pc

pub returns : goal.returns
returns c = λ pc.
    gathered_all (get nat_cmp c.loop-function.starts pc) pc c.loop-function.rest.now c.in_default.ensures.cases ∙ c.loop-function.invariant pc
