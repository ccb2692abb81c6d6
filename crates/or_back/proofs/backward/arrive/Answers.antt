use Rattle.std.proofs.Common.{◌∙◌, ◌≡◌, refl, ap, ℕ, List, min, length}
use Rattle.or_debug.proofs.Seen.{still_after}
use Rattle.or_back.proofs.Standing.{there}
use Rattle.or_back.proofs.backward.arrive.Goals as goal

pub returns-clause-tells : goal.returns-clause-tells
returns-clause-tells c = λ start turns t.
    let moved = c.go_to.ensures.tells start turns t in
    let middle = c.go_to.new.history in
    record {
      turns_are = moved.turns_are;
      follows = moved.follows;
      first = moved.first;
      here = still_after start turns middle.at middle.board.cores c.look_again.new.board.cores middle.board.bus c.look_again.new.board.bus moved.here c.look_again.ensures.board;
      kept = moved.kept;
    }

pub returns-clause-there : goal.returns-clause-there
returns-clause-there c = λ start turns stands.
    let middle = c.go_to.new.history in
    let moved = c.go_to.ensures.tells start turns stands.tells in
    let at : middle.at ≡ min c.args.turn (length turns) = c.in_ok-go_to.ensures.at ∙ ap (λ (l : List ℕ). min c.args.turn (length l)) stands.tells.turns_are in
    there start turns c.args.turn middle _ c.args.stops.now _ moved
    (record {
      turns_are = moved.turns_are;
      follows = moved.follows;
      first = moved.first;
      here = still_after start turns middle.at middle.board.cores c.look_again.new.board.cores middle.board.bus c.look_again.new.board.bus moved.here c.look_again.ensures.board;
      kept = moved.kept;
    })
    at refl c.look_again.ensures.looked
