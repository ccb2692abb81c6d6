use Rattle.std.proofs.Common.{ap, refl}
use Rattle.or_model.specs.Turn.{board_turned}
use Rattle.or_replay.specs.Board.{BoardState}
use Rattle.or_hunt.proofs.Makes.{longer_by, no_refusal}
use Rattle.or_hunt.proofs.making.advance.Goals as goal

pub returns-in_ok-add-in-Ok-clause-advanced : goal.returns-in_ok-add-in-Ok-clause-advanced
returns-in_ok-add-in-Ok-clause-advanced c = λ start now made.
    longer_by start now (board_turned now c.args.core) c.args.made.now c.add.new.made c.turn.new.self.cores c.turn.new.self.bus c.args.core c.in-Ok.field-0
    c.args.board.now.cores c.args.board.now.bus refl made (c.in-Ok.ensures.turned now made.is) c.in_ok-add-in-Ok.ensures.turns c.in_ok-add-in-Ok.ensures.marks

pub returns-in-Err-clause-stopped : goal.returns-in-Err-clause-stopped
returns-in-Err-clause-stopped c = λ _.
    (ap (λ (b : BoardState). b.cores) c.in-Err.ensures.err, no_refusal c.args.board.now.cores c.args.core c.in-Err.field-0 c.in-Err.ensures.why)
