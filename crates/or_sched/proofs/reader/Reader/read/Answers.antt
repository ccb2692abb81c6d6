use Rattle.std.proofs.Common.{◌∷◌, []}
use Rattle.or_sched.proofs.ReaderLemmas.{fed_same, fed_failed}
use Rattle.or_sched.proofs.reader.Reader.read.Goals as goal

pub returns-in-Head-clause-fed : goal.returns-in-Head-clause-fed
returns-in-Head-clause-fed c =
    fed_same c.args.self.now c.read_head.new.self (c.args.byte ∷ []) c.args.out.now.items c.args.marks.now.items c.read_head.ensures.fed

pub returns-in-Failed-clause-fed : goal.returns-in-Failed-clause-fed
returns-in-Failed-clause-fed c =
    fed_failed c.args.self.now c.in-Failed.fault (c.args.byte ∷ []) c.args.out.now.items c.args.marks.now.items c.in-Failed.is
