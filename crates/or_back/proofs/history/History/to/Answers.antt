use Rattle.std.proofs.Common.{arith}
use Rattle.or_back.proofs.history.History.to.Goals as goal

pub returns-clause-tells : goal.returns-clause-tells
returns-clause-tells c = λ start turns t. c.go_on.ensures.tells start turns (c.go_back.ensures.tells start turns t)

pub returns-clause-most : goal.returns-clause-most
returns-clause-most c = omega (arith, c.go_on.ensures.made, c.go_on.ensures.at, c.go_back.ensures.made)
