use Rattle.std.proofs.Common.{◌∙◌, arith}
use Rattle.or_debug.specs.Standing.{points_of}
use Rattle.or_back.proofs.SearchingBack.{place_below}
use Rattle.or_back.proofs.backward.last_hit_in.Goals as goal

pub returns-in_err-found-clause-tells : goal.returns-in_err-found-clause-tells
returns-in_err-found-clause-tells c = λ start turns t. c.find_next.ensures.tells start turns (c.loop-history.invariant.tells start turns t)

pub loop-history-preserved : goal.loop-history-preserved
loop-history-preserved c =
    let now = c.loop-history in
    record {
      tells = λ start turns t. c.find_next.ensures.tells start turns (now.invariant.tells start turns t);
      turns = c.find_next.ensures.turns ∙ now.invariant.turns;
      before = omega (arith, c.find_next.ensures.at, c.loop-history-test.true);
      searches = λ start turns stands. c.in_ok-found.ensures.searches start turns (points_of c.args.stops.now) c.args.from (now.invariant.searches start turns stands);
      nothing = c.in_ok-found.ensures.nothing;
      place = place_below c.args.to now.history.at now.found c.in_ok-found.found c.in_ok-found.ensures.place now.invariant.place c.loop-history-test.true;
    }
