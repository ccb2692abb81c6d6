use Rattle.std.proofs.Common.{◌∙◌, ◌++◌, ap, sym, subst}
use Rattle.or_debug.specs.declared.stops.Stops.{Stops}
use Rattle.or_debug.specs.Hits.{hits_of}
use Rattle.or_debug.specs.Standing.{HasSeen, HasLooked, points_of}
use Rattle.or_debug.proofs.Results.{on_ok_both}
use Rattle.or_debug.proofs.Seen.{followed}
use Rattle.or_debug.proofs.debugger.Debugger.follow.Goals as goal

pub returns-clause-followed : goal.returns-clause-followed
returns-clause-followed c =
    let made = c.advance-made.result in
    let before = c.args.text.now.items in
    let stops = c.advance-made.ensures.stops in
    on_ok_both c.append_hits.result (λ text looked start can stands.
    followed start c.args.turns.now c.args.self.now _ before c.append_hits.new.text.items made
    c.args.board.now.cores c.advance-made.new.board.cores c.append_hits.new.board.cores c.args.board.now.bus c.advance-made.new.board.bus c.append_hits.new.board.bus
    stands (c.advance-made.ensures.made start can stands.reaches) c.advance-made.ensures.turn
    (λ now ram is has. text now ram is (subst (λ (s : Stops). HasSeen ram s) (sym stops) has) ∙ ap (λ (s : Stops). before ++ hits_of made ram now.world.ram (points_of s)) stops)
    (λ now is. subst (λ (s : Stops). HasLooked now.world.ram s c.append_hits.new.self) stops (looked now is)) c.append_hits.ensures.board)
    c.append_hits.ensures.text c.append_hits.ensures.looked
