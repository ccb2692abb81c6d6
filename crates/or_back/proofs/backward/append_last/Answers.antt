use Rattle.std.proofs.Common.{◌∙◌, ◌≡◌, ◌++◌, ap, sym, arith, ℕ, drop}
use Rattle.or_debug.specs.Turns.{turns_made}
use Rattle.or_debug.specs.BoardText.{made_text}
use Rattle.or_back.proofs.LastTurns.{last_none, last_more, last_all}
use Rattle.or_back.proofs.backward.append_last.Goals as goal

pub loop-history-init : goal.loop-history-init
loop-history-init c =
    let within = c.args.history.now.within in
    let from = c.saturating_sub-from.result in
    let here : c.go_to.new.history.at ≡ from = omega (arith, within, c.in_ok-go_to.ensures.at, c.saturating_sub-from.ensures) in
    record {
      tells = c.go_to.ensures.tells;
      turns = c.go_to.ensures.turns;
      behind = omega (arith, here);
      before = omega (arith, here, c.saturating_sub-from.ensures);
      text = λ start turns t. last_none start turns from c.go_to.new.history.at c.args.text.now.items here;
    }

pub returns-in_err-append_next-clause-tells : goal.returns-in_err-append_next-clause-tells
returns-in_err-append_next-clause-tells c = λ start turns t. c.append_next.ensures.tells start turns (c.loop-history.invariant.tells start turns t)

pub loop-history-preserved : goal.loop-history-preserved
loop-history-preserved c =
    let now = c.loop-history in
    let at = c.append_next.ensures.at in
    let from = c.saturating_sub-from.result in
    record {
      tells = λ start turns t. c.append_next.ensures.tells start turns (now.invariant.tells start turns t);
      turns = c.append_next.ensures.turns ∙ now.invariant.turns;
      behind = omega (arith, at, now.invariant.behind);
      before = omega (arith, at, c.loop-history-test.true);
      text = λ start turns t.
          last_more start turns from now.history.at c.args.text.now.items now.text.items c.append_next.new.text.items now.invariant.behind
          (now.invariant.text start turns t) (c.in_ok-append_next.ensures.text start turns (now.invariant.tells start turns t))
          ∙ ap (λ (n : ℕ). c.args.text.now.items ++ made_text (drop from (turns_made start turns n))) (sym at);
    }

pub returns-clause-text : goal.returns-clause-text
returns-clause-text c = λ start turns t.
    let now = c.loop-history in
    let place : now.history.at ≡ c.args.history.now.at = omega (arith, c.loop-history-test.false, now.invariant.before) in
    last_all start turns c.args.history.now.at c.args.count c.saturating_sub-from.result now.history.at c.args.text.now.items now.text.items c.saturating_sub-from.ensures place
    (now.invariant.text start turns t)
