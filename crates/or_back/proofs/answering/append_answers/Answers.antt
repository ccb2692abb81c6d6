use Rattle.or_text.proofs.Kept.{on_err_always}
use Rattle.or_back.specs.Backward.{state_at}
use Rattle.or_back.proofs.Sessions.{up_to_more, up_to_some}
use Rattle.or_back.proofs.answering.append_answers.Goals as goal

pub returns-in_err-append_answer-clause-tells : goal.returns-in_err-append_answer-clause-tells
returns-in_err-append_answer-clause-tells c = λ start turns t. c.append_answer.ensures.tells start turns (c.loop-command.invariant.tells start turns t)

pub returns-in_err-append_answer-clause-err : goal.returns-in_err-append_answer-clause-err
returns-in_err-append_answer-clause-err c =
    let now = c.loop-command in
    on_err_always c.from_residual.result (λ start turns stands.
    up_to_some start turns (state_at c.args.history.now.at c.args.stops.now) c.args.commands.now now.command-index c.args.out.now.items now.out.items c.append_answer.new.out.items
    now.history now.stops (now.invariant.up_to start turns stands) c.in_err-append_answer.ensures.err)

pub loop-command-preserved : goal.loop-command-preserved
loop-command-preserved c =
    let now = c.loop-command in
    record {
      tells = λ start turns t. c.append_answer.ensures.tells start turns (now.invariant.tells start turns t);
      up_to = λ start turns stands.
          let up_to = now.invariant.up_to start turns stands in
          up_to_more start turns (state_at c.args.history.now.at c.args.stops.now) c.args.commands.now now.command-index _ c.args.out.now.items now.out.items c.append_answer.new.out.items
          now.history c.append_answer.new.history now.stops c.append_answer.new.stops up_to c.loop-command-test.true (c.in_ok-append_answer.ensures.answered start turns up_to.stands);
    }
