use Rattle.std.proofs.lemmas.Result.{on_ok_weaker, on_err_weaker}
use Rattle.or_text.proofs.Kept.{on_err_always}
use Rattle.or_debug.proofs.Sessions.{nothing_run, fresh, run_all, run_some}
use Rattle.or_debug.proofs.answering.run.Goals as goal

pub returns-in_err-debugger-clause-err : goal.returns-in_err-debugger-clause-err
returns-in_err-debugger-clause-err c =
    on_err_always c.from_residual.result (λ start is can.
    nothing_run start c.args.turns.now c.args.commands.now c.args.out.now.items c.args.board.now.cores c.args.board.now.bus is)

pub returns-clause-ok : goal.returns-clause-ok
returns-clause-ok c =
    let debugger = c.in_ok-debugger.debugger in
    on_ok_weaker c.append_answers.result (λ all start is can.
    let stands = fresh start c.args.turns.now debugger c.args.board.now.cores c.args.board.now.bus is c.in_ok-debugger.ensures.state c.in_ok-debugger.ensures.seen c.in_ok-debugger.ensures.last in
    run_all start c.args.turns.now debugger c.append_answers.new.debugger c.args.commands.now c.args.out.now.items c.append_answers.new.out.items
    c.append_answers.new.board.cores c.append_answers.new.board.bus c.in_ok-debugger.ensures.state (all start can stands)) c.append_answers.ensures.ok

pub returns-clause-err : goal.returns-clause-err
returns-clause-err c =
    let debugger = c.in_ok-debugger.debugger in
    on_err_weaker c.append_answers.result (λ some start is can.
    let stands = fresh start c.args.turns.now debugger c.args.board.now.cores c.args.board.now.bus is c.in_ok-debugger.ensures.state c.in_ok-debugger.ensures.seen c.in_ok-debugger.ensures.last in
    run_some start c.args.turns.now debugger c.append_answers.new.debugger c.args.commands.now c.args.out.now.items c.append_answers.new.out.items
    c.append_answers.new.board.cores c.append_answers.new.board.bus c.in_ok-debugger.ensures.state (some start can stands)) c.append_answers.ensures.err
