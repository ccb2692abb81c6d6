use Rattle.std.proofs.Common.{arith, ◌++◌, ◌/◌, decimal}
use Rattle.or_command.proofs.SaysLemmas.{said_as, number_end, number_digit}
use Rattle.or_command.proofs.saying.+then_number.Goals as goal

pub returns-then-n-lt10 : goal.returns-then-n-lt10
returns-then-n-lt10 g t c = λ start line h.
    said_as _ _ _ _ _ (number_digit line c.args.n (omega arith)) (c.then_say.ensures start line h)

pub returns : goal.returns
returns g t c = λ start line h.
    said_as _ _ _ _ _ (number_end line c.args.n (omega arith) (omega arith))
    (c.then_say-2.ensures start (line ++ decimal (c.args.n / 10)) (c.then_number-so_far.ensures start line h))
