use Rattle.or_debug.proofs.Following.{ring_further}
use Rattle.or_debug.proofs.debugger.Debugger.advance.Goals as goal

pub returns-clause-made : goal.returns-clause-made
returns-clause-made c start can reaches =
    let made = c.make_turn-made.ensures.made start can reaches.board in
    record {
      reaches = record {
        board = made.board;
        ring = ring_further start c.args.turns.now c.args.self.now.turn c.args.self.now.last c.push_back.new.self c.make_turn-made.result reaches.ring c.push_back.ensures.items made.made_is;
      };
      made_is = made.made_is;
    }
