use Rattle.std.proofs.Common.{arith, length-append}
use Rattle.std.proofs.lemmas.Grind.{common_steps}
use Rattle.or_sched.proofs.ReaderEnds.{read_all}
use Rattle.or_sched.proofs.reader.Reader.feed.Goals as goal

pub returns-in-Ok-clause-exact : goal.returns-in-Ok-clause-exact
returns-in-Ok-clause-exact c = (
  grind (arith, common_steps, c.in-Ok.ensures.fed.turns_are, length-append c.args.out.now.items c.in-Ok.ensures.fed.turns),
  λ bytes turns marks read. read_all c.read_piece.new.self.head c.read_piece.new.self.state bytes turns marks c.in-Ok.ensures.answer read,
)
