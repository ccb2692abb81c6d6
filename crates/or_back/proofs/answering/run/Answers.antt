use Rattle.std.proofs.Common.{◌∙◌, ◌++◌, ap, subst}
use Rattle.std.proofs.lemmas.Result.{on_ok_weaker, on_err_weaker}
use Rattle.or_debug.specs.Session.{State}
use Rattle.or_back.specs.Session.{back_session_from}
use Rattle.or_back.specs.Backward.{IsFront}
use Rattle.or_back.proofs.Sessions.{fresh, first_at}
use Rattle.or_back.proofs.answering.run.Goals as goal

pub returns-clause-ok : goal.returns-clause-ok
returns-clause-ok c =
    let history = c.args.history.now in
    let stops = c.new-stops.result in
    let first = first_at history stops c.requires c.new-stops.ensures.none in
    on_ok_weaker c.append_answers.result (λ all start turns tells.
    all start turns (fresh start turns history stops tells c.new-stops.ensures.seen)
    ∙ ap (λ (s : State). c.args.out.now.items ++ back_session_from start turns s c.args.commands.now) first) c.append_answers.ensures.ok

pub returns-clause-err : goal.returns-clause-err
returns-clause-err c =
    let history = c.args.history.now in
    let stops = c.new-stops.result in
    let first = first_at history stops c.requires c.new-stops.ensures.none in
    on_err_weaker c.append_answers.result (λ some start turns tells.
    subst (λ (s : State). IsFront (back_session_from start turns s c.args.commands.now) c.args.out.now.items c.append_answers.new.out.items) first
    (some start turns (fresh start turns history stops tells c.new-stops.ensures.seen))) c.append_answers.ensures.err
