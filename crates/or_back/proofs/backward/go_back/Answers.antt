use Rattle.std.proofs.Common.{◌∙◌, ◌<◌, ◌++◌, sym, ap, subst, ℕ, List, length}
use Rattle.std.specs.Prelude.{Option, IfSome, codes}
use Rattle.std.proofs.lemmas.Result.{on_ok_weaker}
use Rattle.or_back.proofs.SearchingBack.{back_at_hit, back_at_start}
use Rattle.or_back.proofs.backward.go_back.Goals as goal

pub returns-in_err-arrive-in-Some-clause-tells : goal.returns-in_err-arrive-in-Some-clause-tells
returns-in_err-arrive-in-Some-clause-tells c = λ start turns t. c.arrive.ensures.tells start turns (c.hit_before.ensures.tells start turns t)

pub returns-in_err-arrive-in-None-clause-tells : goal.returns-in_err-arrive-in-None-clause-tells
returns-in_err-arrive-in-None-clause-tells c = λ start turns t. c.arrive-in-None.ensures.tells start turns (c.hit_before.ensures.tells start turns t)

pub returns-in_ok-arrive-in-Some-clause-tells : goal.returns-in_ok-arrive-in-Some-clause-tells
returns-in_ok-arrive-in-Some-clause-tells c = λ start turns t.
    c.follow.ensures.tells start turns (c.arrive.ensures.tells start turns (c.hit_before.ensures.tells start turns t))

pub returns-in_ok-arrive-in-Some-clause-answered : goal.returns-in_ok-arrive-in-Some-clause-answered
returns-in_ok-arrive-in-Some-clause-answered c =
    let history = c.args.history.now in
    let place = c.in-Some.place in
    on_ok_weaker c.follow.result (λ followed start turns stands.
    let found = c.in_ok-place.ensures.stands start turns stands in
    let is = c.in_ok-arrive-in-Some.ensures.there start turns found.stands in
    let below = subst (λ (o : Option ℕ). IfSome o (λ place. place < length history.turns.items)) c.in-Some.is c.in_ok-place.ensures.place in
    back_at_hit start turns place history c.arrive.new.history c.follow.new.history c.args.stops.now c.hit_before.new.stops c.arrive.new.stops c.follow.new.stops
    c.args.text.now.items c.follow.new.text.items (sym c.in-Some.is ∙ c.in_ok-place.ensures.found start turns stands) found.points_are
    (subst (λ (l : List ℕ). place < length l) stands.tells.turns_are below) is (followed start turns is.stands) c.requires) c.follow.ensures.followed

pub returns-in_ok-arrive-in-None-clause-tells : goal.returns-in_ok-arrive-in-None-clause-tells
returns-in_ok-arrive-in-None-clause-tells c = λ start turns t. c.arrive-in-None.ensures.tells start turns (c.hit_before.ensures.tells start turns t)

pub returns-in_ok-arrive-in-None-clause-answered : goal.returns-in_ok-arrive-in-None-clause-answered
returns-in_ok-arrive-in-None-clause-answered c =
    on_ok_weaker c.append_start.result (λ said start turns stands.
    let found = c.in_ok-place.ensures.stands start turns stands in
    back_at_start start turns c.args.history.now c.arrive-in-None.new.history c.args.stops.now c.hit_before.new.stops c.arrive-in-None.new.stops c.append_start.new.text.items
    (sym c.in-None.is ∙ c.in_ok-place.ensures.found start turns stands) found.points_are (c.in_ok-arrive-in-None.ensures.there start turns found.stands)
    (said ∙ ap (λ l. l ++ codes "start turn 0\n") c.requires)) c.append_start.ensures
