use Rattle.std.proofs.Common.{◌∙◌, ◌++◌, ◌≡◌, ◌<◌, ◌≤◌, [], length, sym, ap, eqb, arith}
use Rattle.std.proofs.lemmas.Result.{on_ok_weaker}
use Rattle.or_debug.specs.Session.{end_line}
use Rattle.or_debug.proofs.Going.{empty_length, some_length}
use Rattle.or_back.proofs.Standing.{goes_back, goes_on, goes_hit, goes_end}
use Rattle.or_back.proofs.backward.go.Goals as goal

pub returns-in_err-follow-clause-tells : goal.returns-in_err-follow-clause-tells
returns-in_err-follow-clause-tells c = λ start turns t. c.follow.ensures.tells start turns (c.loop-history.invariant.tells start turns t)

pub returns-then-not-is_empty-clause-tells : goal.returns-then-not-is_empty-clause-tells
returns-then-not-is_empty-clause-tells c = λ start turns t. c.follow.ensures.tells start turns (c.loop-history.invariant.tells start turns t)

pub returns-then-not-is_empty-clause-answered : goal.returns-then-not-is_empty-clause-answered
returns-then-not-is_empty-clause-answered c = λ start turns stands.
    let now = c.loop-history in
    let goes = now.invariant.goes start turns stands in
    let inside : now.history.at < length now.history.turns.items = omega (arith, c.len.ensures, now.history.turns.ok.0, c.loop-history-test.true) in
    goes_hit start turns c.args.history.now now.history c.follow.new.history c.args.stops.now now.stops c.follow.new.stops now.text.items c.follow.new.text.items
    goes inside
    (c.in_ok-follow.ensures.followed start turns (goes_back start turns c.args.history.now now.history c.args.stops.now now.stops goes)) now.invariant.nothing
    (some_length c.follow.new.text.items (ap (λ n. eqb n 0) (sym c.follow.new.text.ok.0) ∙ sym c.is_empty.ensures ∙ c.if-not-is_empty.true))

pub loop-history-preserved : goal.loop-history-preserved
loop-history-preserved c =
    let now = c.loop-history in
    let inside : now.history.at < length now.history.turns.items = omega (arith, c.len.ensures, now.history.turns.ok.0, c.loop-history-test.true) in
    let nothing : c.follow.new.text.items ≡ [] = empty_length c.follow.new.text.items (ap (λ n. eqb n 0) (sym c.follow.new.text.ok.0) ∙ sym c.is_empty.ensures ∙ c.if-not-is_empty.false) in
    record {
      tells = λ start turns t. c.follow.ensures.tells start turns (now.invariant.tells start turns t);
      goes = λ start turns stands.
          let goes = now.invariant.goes start turns stands in
          goes_on start turns c.args.history.now now.history c.follow.new.history c.args.stops.now now.stops c.follow.new.stops now.text.items c.follow.new.text.items
          goes inside
          (c.in_ok-follow.ensures.followed start turns (goes_back start turns c.args.history.now now.history c.args.stops.now now.stops goes)) now.invariant.nothing nothing;
      nothing = nothing;
    }

pub returns-clause-answered : goal.returns-clause-answered
returns-clause-answered c =
    let now = c.loop-history in
    let past : length now.history.turns.items ≤ now.history.at = omega (arith, c.len.ensures, now.history.turns.ok.0, c.loop-history-test.false) in
    on_ok_weaker c.append_turn.result (λ text start turns stands.
    goes_end start turns c.args.history.now now.history c.args.stops.now now.stops c.append_turn.new.text.items (now.invariant.goes start turns stands) past
    (text ∙ ap (λ l. l ++ end_line now.history.at) now.invariant.nothing)) c.append_turn.ensures.text
