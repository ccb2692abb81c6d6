use Rattle.std.proofs.Common.{arith, ◌≡◌, take, subst, List}
use Rattle.std.proofs.lemmas.Grind.{common_steps}
use Rattle.or_race.specs.declared.whole.Added.{Added}
use Rattle.or_race.specs.Adds.{events}
use Rattle.or_race.specs.Records.{Records}
use Rattle.or_race.proofs.whole.report_of.Goals as goal

pub loop-add-preserved : goal.loop-add-preserved
loop-add-preserved c =
    let records = c.in_ok-add.ensures.ok c.args.locks _ c.loop-add.invariant.records in
    grind (arith, common_steps, records)

pub returns-in-Ok-clause-ok : goal.returns-in-Ok-clause-ok
returns-in-Ok-clause-ok c =
    let all : take c.loop-add.add-index c.args.adds.now ≡ c.args.adds.now = grind (arith, common_steps) in
    c.in-Ok.ensures.ok c.args.locks (events c.args.adds.now) (subst (λ (l : List Added). Records c.args.locks c.loop-add.races (events l)) all c.loop-add.invariant.records)
