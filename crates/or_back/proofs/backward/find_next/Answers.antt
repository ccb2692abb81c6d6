use Rattle.std.proofs.Common.{◌∙◌, refl, ap, sym, eqb}
use Rattle.or_debug.proofs.Going.{empty_length, some_length}
use Rattle.or_back.proofs.SearchingBack.{searches_on, searches_hit}
use Rattle.or_back.proofs.backward.find_next.Goals as goal

pub returns-then-is_empty-clause-searches : goal.returns-then-is_empty-clause-searches
returns-then-is_empty-clause-searches c = λ start turns points from is.
    searches_on start turns points from c.args.found c.args.history.now c.follow.new.history c.args.stops.now c.follow.new.stops c.args.lines.now.items c.follow.new.text.items
    is (c.in_ok-follow.ensures.followed start turns is.stands.stands) c.requires.nothing
    (empty_length c.follow.new.text.items (ap (λ n. eqb n 0) (sym c.follow.new.text.ok.0) ∙ sym c.is_empty.ensures ∙ c.if-is_empty.true))

pub returns-clause-searches : goal.returns-clause-searches
returns-clause-searches c = λ start turns points from is.
    searches_hit start turns points from c.args.history.now.at c.args.found c.args.history.now c.follow.new.history c.args.stops.now c.follow.new.stops c.args.lines.now.items c.follow.new.text.items
    is (c.in_ok-follow.ensures.followed start turns is.stands.stands) c.requires.nothing
    (some_length c.follow.new.text.items (ap (λ n. eqb n 0) (sym c.follow.new.text.ok.0) ∙ sym c.is_empty.ensures ∙ c.if-is_empty.false)) refl
