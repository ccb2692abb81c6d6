use Rattle.std.proofs.Common.{[], refl}
use Rattle.or_command.specs.Ends.{end_of}
use Rattle.or_command.specs.Outcomes.{LeavesAll}
use Rattle.or_command.proofs.OutcomesLemmas.{said_leaves_all}
use Rattle.or_command.proofs.AnsweredLemmas.{answered, goes_on}
use Rattle.or_about.specs.About.{about_loads, about_check, text_of, AboutWrites}
use Rattle.or_about.proofs.Answering.{none_loaded, about_apart}
use Rattle.or_about.proofs.answer.Goals as goal

pub returns : goal.returns
returns g c =
    let text = text_of c.args.about.now c.args.question.now in
    let a = g.H.Host.state c.args.host.now in
    let b = g.H.Host.state c.answered-outcome.new.host in
    let d = g.H.Host.state c.conclude.new.host in
    answered about_loads about_check (AboutWrites text) LeavesAll (end_of c.answered-outcome.result) c.conclude.result a b d
    (λ left. said_leaves_all a b d left c.conclude.ensures.only) c.conclude.ensures.status
    (goes_on about_loads about_check (AboutWrites text) (about_apart text) [] [] (end_of c.answered-outcome.result) a a b refl (none_loaded a)
    c.answered-outcome.ensures.outcome) c.answered-outcome.ensures.silent c.conclude.ensures.line c.conclude.ensures.only
