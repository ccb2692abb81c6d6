use Rattle.or_sched.proofs.ReaderEnds.{head_told}
use Rattle.or_sched.proofs.reader.Reader.head.Goals as goal

pub returns-clause-exact : goal.returns-clause-exact
returns-clause-exact c = λ bytes turns front marks read readable. head_told c.args.self.now.head c.args.self.now.state bytes turns front marks read readable
