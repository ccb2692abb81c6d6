use Rattle.or_text.proofs.Kept.{on_err_always}
use Rattle.or_debug.proofs.Sessions.{nothing_written}
use Rattle.or_debug.proofs.answering.session.Goals as goal

pub returns-in_err-check-clause-part : goal.returns-in_err-check-clause-part
returns-in_err-check-clause-part c =
    on_err_always c.from_residual.result (λ start is can.
    nothing_written c.args.board.now.config start c.args.turns.now c.args.script.now c.args.out.now.items c.args.board.now.cores c.args.board.now.bus is)

pub returns-in_err-commands-clause-part : goal.returns-in_err-commands-clause-part
returns-in_err-commands-clause-part c =
    on_err_always c.from_residual-in_err-commands.result (λ start is can.
    nothing_written c.args.board.now.config start c.args.turns.now c.args.script.now c.args.out.now.items c.args.board.now.cores c.args.board.now.bus is)
