use Rattle.std.proofs.Common.{◌∙◌}
use Rattle.or_debug.specs.Standing.{state_of}
use Rattle.or_text.proofs.Kept.{on_err_always}
use Rattle.or_debug.proofs.Sessions.{up_to_more, up_to_some, up_to_all}
use Rattle.or_debug.proofs.answering.append_answers.Goals as goal

pub loop-command-preserved : goal.loop-command-preserved
loop-command-preserved c = record {
  up_to = λ start can stands.
      let up_to = c.loop-command.invariant.up_to start can stands in
      up_to_more start c.args.turns.now (state_of c.args.debugger.now) c.args.commands.now c.loop-command.command-index _ c.args.out.now.items c.loop-command.out.items c.append_answer.new.out.items
      c.loop-command.debugger c.append_answer.new.debugger c.loop-command.board.cores c.append_answer.new.board.cores c.loop-command.board.bus c.append_answer.new.board.bus
      up_to c.loop-command-test.true (c.in_ok-append_answer.ensures.answered start can up_to.stands);
  config = c.in_ok-append_answer.ensures.config ∙ c.loop-command.invariant.config;
}

pub returns-in_err-append_answer-clause-err : goal.returns-in_err-append_answer-clause-err
returns-in_err-append_answer-clause-err c =
    let now = c.loop-command in
    on_err_always c.from_residual.result (λ start can stands.
    let up_to = now.invariant.up_to start can stands in
    up_to_some start c.args.turns.now (state_of c.args.debugger.now) c.args.commands.now now.command-index c.args.out.now.items now.out.items c.append_answer.new.out.items
    now.debugger c.append_answer.new.debugger now.board.cores c.append_answer.new.board.cores now.board.bus c.append_answer.new.board.bus
    up_to c.in_err-append_answer.ensures.err (c.append_answer.ensures.reaches start can up_to.stands.reaches))

pub returns-clause-ok : goal.returns-clause-ok
returns-clause-ok c start can stands =
    up_to_all start c.args.turns.now (state_of c.args.debugger.now) c.args.commands.now c.loop-command.command-index c.args.out.now.items c.loop-command.out.items
    c.loop-command.debugger c.loop-command.board.cores c.loop-command.board.bus (c.loop-command.invariant.up_to start can stands) c.loop-command-test.false
