use Rattle.std.proofs.Common.{◌∙◌, ◌≡◌, ◌≤◌, ◌+◌, ◌++◌, ap, subst, arith, min, length}
use Rattle.std.proofs.lemmas.Result.{on_ok_weaker}
use Rattle.or_debug.specs.declared.stops.Stops.{Stops}
use Rattle.or_debug.specs.Session.{at_line}
use Rattle.or_debug.specs.Standing.{HasLooked}
use Rattle.or_debug.proofs.Seen.{made_turns}
use Rattle.or_debug.proofs.debugger.Debugger.make_turns.Goals as goal

pub returns-clause-answered : goal.returns-clause-answered
returns-clause-answered c =
    on_ok_weaker c.append_turn.result (λ text start can stands.
    let within = stands.reaches.board.within in
    let before : c.args.self.now.turn ≤ c.min-end.result = omega (arith, within, c.min-end.ensures, c.saturating_add.ensures) in
    let turn = c.advance_to.ensures.turn before in
    let end : c.min-end.result ≡ min (c.args.self.now.turn + c.args.count) (length c.args.turns.now) = omega (arith, within, c.min-end.ensures, c.saturating_add.ensures) in
    made_turns start c.args.turns.now c.args.self.now _ c.args.count c.append_turn.new.text.items
    c.advance_to.new.board.cores c.look_again.new.board.cores c.advance_to.new.board.bus c.look_again.new.board.bus
    (c.advance_to.ensures.reaches start can stands.reaches) (turn ∙ end)
    (λ now is. subst (λ (s : Stops). HasLooked now.world.ram s c.look_again.new.self) c.advance_to.ensures.stops (c.look_again.ensures.looked now is)) c.look_again.ensures.board
    (text ∙ ap (λ l. l ++ at_line c.advance_to.new.self.turn) c.requires)) c.append_turn.ensures.text
