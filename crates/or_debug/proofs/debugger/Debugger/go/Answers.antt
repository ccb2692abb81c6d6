use Rattle.std.proofs.Common.{◌∙◌, ◌++◌, sym, ap, eqb}
use Rattle.std.proofs.lemmas.Result.{on_ok_weaker}
use Rattle.or_debug.specs.Session.{end_line}
use Rattle.or_debug.proofs.Going.{going_on, going_hits, going_ends, empty_length, some_length}
use Rattle.or_debug.proofs.debugger.Debugger.go.Goals as goal

pub returns-then-not-is_empty-clause-answered : goal.returns-then-not-is_empty-clause-answered
returns-then-not-is_empty-clause-answered c start can stands =
    let going = c.loop-self.invariant.going start can stands in
    going_hits start c.args.turns.now c.args.self.now c.loop-self.self c.follow.new.self c.loop-self.text.items c.follow.new.text.items
    c.loop-self.board.cores c.follow.new.board.cores c.loop-self.board.bus c.follow.new.board.bus going c.loop-self-test.true
    (c.in_ok-follow.ensures.followed start can going.stands) c.loop-self.invariant.nothing
    (some_length c.follow.new.text.items (ap (λ n. eqb n 0) (sym c.follow.new.text.ok.0) ∙ sym c.is_empty.ensures ∙ c.if-not-is_empty.true))

pub loop-self-preserved : goal.loop-self-preserved
loop-self-preserved c = record {
  reaches = λ start can reaches. c.in_ok-follow.ensures.reaches start can (c.loop-self.invariant.reaches start can reaches);
  going = λ start can stands.
      let going = c.loop-self.invariant.going start can stands in
      going_on start c.args.turns.now c.args.self.now c.loop-self.self c.follow.new.self c.loop-self.text.items c.follow.new.text.items
      c.loop-self.board.cores c.follow.new.board.cores c.loop-self.board.bus c.follow.new.board.bus going c.loop-self-test.true
      (c.in_ok-follow.ensures.followed start can going.stands) c.loop-self.invariant.nothing
      (empty_length c.follow.new.text.items (ap (λ n. eqb n 0) (sym c.follow.new.text.ok.0) ∙ sym c.is_empty.ensures ∙ c.if-not-is_empty.false));
  nothing = empty_length c.follow.new.text.items (ap (λ n. eqb n 0) (sym c.follow.new.text.ok.0) ∙ sym c.is_empty.ensures ∙ c.if-not-is_empty.false);
  config = c.in_ok-follow.ensures.config ∙ c.loop-self.invariant.config;
}

pub returns-clause-answered : goal.returns-clause-answered
returns-clause-answered c =
    on_ok_weaker c.append_turn.result (λ text start can stands.
    going_ends start c.args.turns.now c.args.self.now c.loop-self.self c.append_turn.new.text.items c.loop-self.board.cores c.loop-self.board.bus
    (c.loop-self.invariant.going start can stands) c.loop-self-test.false (text ∙ ap (λ l. l ++ end_line c.loop-self.self.turn) c.loop-self.invariant.nothing)) c.append_turn.ensures.text
