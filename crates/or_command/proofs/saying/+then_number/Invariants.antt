use Rattle.or_command.proofs.saying.+then_number.Given as goal

abbrev pub decreases-then_number : goal.decreases-then_number
decreases-then_number g l = l.n
