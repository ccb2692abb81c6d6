use Rattle.std.proofs.Common.{◌∙◌, refl, arith}
use Rattle.or_debug.specs.Standing.{points_of}
use Rattle.or_back.specs.Session.{hit_before}
use Rattle.or_back.specs.Backward.{state_at}
use Rattle.or_back.proofs.SearchingBack.{first_stretch, found_stretch, earlier_stretch, no_stretch}
use Rattle.or_back.proofs.backward.hit_before.Goals as goal

pub loop-to-init : goal.loop-to-init
loop-to-init c = record {
  tells = λ start turns t. t;
  turns = refl;
  within = omega (arith, c.args.history.now.within, c.saturating_sub-to.ensures);
  stands = λ start turns stands. record { stands = stands; points_are = refl };
  left = λ start turns stands. first_stretch start turns c.args.history.now.at c.saturating_sub-to.result c.args.stops.now c.saturating_sub-to.ensures;
}

pub returns-in_err-hit-clause-tells : goal.returns-in_err-hit-clause-tells
returns-in_err-hit-clause-tells c = λ start turns t. c.last_hit_in.ensures.tells start turns (c.loop-to.invariant.tells start turns t)

pub returns-in-Some-clause-tells : goal.returns-in-Some-clause-tells
returns-in-Some-clause-tells c = λ start turns t. c.last_hit_in.ensures.tells start turns (c.loop-to.invariant.tells start turns t)

pub returns-in-Some-clause-stands : goal.returns-in-Some-clause-stands
returns-in-Some-clause-stands c = λ start turns stands.
    let before = c.loop-to.invariant.stands start turns stands in
    let after = c.in_ok-hit.ensures.stands start turns before.stands in
    record { stands = after.stands; points_are = after.points_are ∙ before.points_are }

pub returns-in-Some-clause-found : goal.returns-in-Some-clause-found
returns-in-Some-clause-found c = λ start turns stands.
    let before = c.loop-to.invariant.stands start turns stands in
    found_stretch start turns (points_of c.args.stops.now) (points_of c.loop-to.stops) c.copy_before-from.result c.loop-to.to c.in-Some.hit c.in_ok-hit.field-0
    (hit_before start turns (state_at c.args.history.now.at c.args.stops.now)) before.points_are (c.in_ok-hit.ensures.found start turns before.stands) c.in-Some.is
    (c.loop-to.invariant.left start turns stands)

pub loop-to-preserved : goal.loop-to-preserved
loop-to-preserved c =
    let now = c.loop-to in
    record {
      tells = λ start turns t. c.last_hit_in.ensures.tells start turns (now.invariant.tells start turns t);
      turns = c.last_hit_in.ensures.turns ∙ now.invariant.turns;
      within = omega (arith, c.copy_before-from.ensures, now.invariant.within);
      stands = λ start turns stands.
          let before = now.invariant.stands start turns stands in
          let after = c.in_ok-hit.ensures.stands start turns before.stands in
          record { stands = after.stands; points_are = after.points_are ∙ before.points_are };
      left = λ start turns stands.
          let before = now.invariant.stands start turns stands in
          earlier_stretch start turns (points_of c.args.stops.now) (points_of now.stops) c.copy_before-from.result now.to c.in_ok-hit.field-0
          (hit_before start turns (state_at c.args.history.now.at c.args.stops.now)) before.points_are (c.in_ok-hit.ensures.found start turns before.stands) c.in-None.is
          (now.invariant.left start turns stands);
    }

pub returns-clause-found : goal.returns-clause-found
returns-clause-found c = λ start turns stands.
    no_stretch start turns c.args.history.now.at c.loop-to.to c.args.stops.now (omega (arith, c.loop-to-test.false)) (c.loop-to.invariant.left start turns stands)
