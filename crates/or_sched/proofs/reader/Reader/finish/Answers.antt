use Rattle.std.proofs.Common.{sym, subst}
use Rattle.or_sched.specs.Reading.{StateRead}
use Rattle.or_sched.proofs.ReaderEnds.{head_short_of, body_short_of, body_whole}
use Rattle.or_sched.proofs.reader.Reader.finish.Goals as goal

pub returns-in-Head-clause-exact : goal.returns-in-Head-clause-exact
returns-in-Head-clause-exact c = λ bytes turns marks read.
    head_short_of c.args.self.now.head c.in-Head.field-0 bytes turns marks (subst (λ s. StateRead c.args.self.now.head s bytes turns marks) c.in-Head.is read)

pub returns-then-is_end-clause-exact : goal.returns-then-is_end-clause-exact
returns-then-is_end-clause-exact c = λ bytes turns marks read.
    body_whole c.args.self.now.head c.in-Body.body.limits c.in-Body.body.place c.in-Body.body.count bytes turns marks
    (subst (λ s. StateRead c.args.self.now.head s bytes turns marks) c.in-Body.is read) c.in-Body.body.sound (sym c.if-is_end.ensures)

pub returns-else-is_end-clause-exact : goal.returns-else-is_end-clause-exact
returns-else-is_end-clause-exact c = λ bytes turns marks read.
    body_short_of c.args.self.now.head c.in-Body.body.limits c.in-Body.body.place c.in-Body.body.count bytes turns marks
    (subst (λ s. StateRead c.args.self.now.head s bytes turns marks) c.in-Body.is read) c.in-Body.body.sound (sym c.if-is_end.ensures)
