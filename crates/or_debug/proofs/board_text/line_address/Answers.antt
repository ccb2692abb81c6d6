use Rattle.or_debug.proofs.Held.{told_line, told_none}
use Rattle.or_debug.proofs.board_text.line_address.Goals as goal

pub returns-in-None : goal.returns-in-None
returns-in-None c now is = told_none now.world c.args.core c.args.index (c.in-None.ensures now is)

pub returns-in-Some : goal.returns-in-Some
returns-in-Some c now is = told_line now.world c.args.core c.args.index (c.in-Some.address, c.in-Some.field-0-1) (c.in-Some.ensures now is)
