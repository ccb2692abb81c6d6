use Rattle.std.proofs.Common.{refl}
use Rattle.or_debug.proofs.Results.{on_ok_both}
use Rattle.or_debug.proofs.Seen.{still_after}
use Rattle.or_back.proofs.Standing.{next_turn}
use Rattle.or_back.proofs.backward.follow.Goals as goal

pub returns-clause-tells : goal.returns-clause-tells
returns-clause-tells c = λ start turns t.
    let moved = c.make_next-made.ensures.tells start turns t in
    let middle = c.make_next-made.new.self in
    record {
      turns_are = moved.turns_are;
      follows = moved.follows;
      first = moved.first;
      here = still_after start turns middle.at middle.board.cores c.append_hits.new.board.cores middle.board.bus c.append_hits.new.board.bus moved.here c.append_hits.ensures.board;
      kept = moved.kept;
    }

pub returns-clause-followed : goal.returns-clause-followed
returns-clause-followed c =
    let middle = c.make_next-made.new.self in
    on_ok_both c.append_hits.result (λ text looked start turns stands.
    let moved = c.make_next-made.ensures.tells start turns stands.tells in
    next_turn start turns c.args.history.now middle _ c.args.stops.now _ c.args.text.now.items c.append_hits.new.text.items c.make_next-made.result
    stands moved
    (record {
      turns_are = moved.turns_are;
      follows = moved.follows;
      first = moved.first;
      here = still_after start turns middle.at middle.board.cores c.append_hits.new.board.cores middle.board.bus c.append_hits.new.board.bus moved.here c.append_hits.ensures.board;
      kept = moved.kept;
    })
    c.make_next-made.ensures.at refl (c.make_next-made.ensures.made start turns stands.tells) text looked c.append_hits.ensures.board) c.append_hits.ensures.text c.append_hits.ensures.looked
