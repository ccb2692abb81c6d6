use Rattle.std.proofs.Common.{arith}
use Rattle.or_back.proofs.moves.step.Goals as goal

pub returns-then-not-is_kept-clause-multiples : goal.returns-then-not-is_kept-clause-multiples
returns-then-not-is_kept-clause-multiples c = λ all. c.keep.ensures.multiples c.args.every c.if-at-every-eq0.true (omega arith) all
