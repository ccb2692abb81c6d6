use Rattle.std.proofs.Common.{sym, subst}
use Rattle.or_sched.specs.RunRests.{AtEnd}
use Rattle.or_sched.specs.BlockRests.{Behind}
use Rattle.or_sched.specs.Places.{Leads}
use Rattle.or_sched.specs.declared.places.Place.TheVariants.{Word}
use Rattle.or_sched.proofs.PlaceLemmas.{end_word}
use Rattle.or_sched.proofs.step.at_end.Goals as goal

pub returns-then-block-eq0-clause-leads : goal.returns-then-block-eq0-clause-leads
returns-then-block-eq0-clause-leads c =
    subst (λ o. Leads c.args.limits.now (Word 0 c.in-Some.total) (λ rest all later. AtEnd (Behind c.args.limits.now o) c.args.block.left rest all later))
    (sym c.in-Some.is) (end_word c.args.limits.now c.in-Some.total c.args.block.left c.requires.limits c.if-block-eq0.true)
