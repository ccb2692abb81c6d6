use Rattle.std.proofs.Common.{◌∙◌, ◌++◌, ap, ℕ, List}
use Rattle.std.proofs.lemmas.Result.{on_ok_weaker}
use Rattle.or_debug.specs.Session.{State, at_line}
use Rattle.or_back.proofs.backward.travel.Goals as goal

pub returns-clause-gone : goal.returns-clause-gone
returns-clause-gone c =
    on_ok_weaker c.append_turn.result (λ text start turns stands.
    let is = c.in_ok-arrive.ensures.there start turns stands in
    record {
      stands = is.stands;
      state = is.state;
      text_is = text ∙ ap (λ (l : List ℕ). l ++ at_line c.arrive.new.history.at) c.requires ∙ ap (λ (s : State). at_line s.turn) is.state;
    }) c.append_turn.ensures.text
