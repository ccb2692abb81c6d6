use Rattle.std.proofs.Common.{◌≡◌, Bool, List, ◌++◌, length, map, Option, None, Some, sym, ap, ◌∙◌, arith, length-append}
use lib.ListN.{length-map}
use Rattle.or_model.specs.Core.{Core}
use Rattle.or_turn.specs.declared.view.View.{View}
use Rattle.or_turn.specs.Told.{SeatState}
use Rattle.or_turn.specs.SeatViews.{core_of, cores_shown}
use Rattle.or_turn.proofs.Units.{joint_short, joint_cores}
use Rattle.or_turn.proofs.shared.Shared.join.Goals.{After-join}
use Rattle.or_turn.proofs.shared.Shared.join.Goals as goal

none_is : (f : Bool) → None ≡ Some f → ⊥
none_is f e = cc

into_is : (c : After-join) → c.args.into.now.cores.items ≡ map (core_of c.args.into.now.seat.me.0) c.args.into.now.seat.me.0.cores
into_is c = c.args.into.now.shown ∙ ap (λ (o : Option Bool). cores_shown c.args.into.now.seat.me.0 o) c.requires.rest.0

from_is : (c : After-join) → c.args.from.cores.items ≡ map (core_of c.args.from.seat.me.0) c.args.from.seat.me.0.cores
from_is c = c.args.from.shown ∙ ap (λ (o : Option Bool). cores_shown c.args.from.seat.me.0 o) c.requires.rest.1

pub append-requires : goal.append-requires
append-requires c = let at = (goal.at.append-requires c).After-join in let v : View = c.args.into.now.seat.me.0 in let w : View = c.args.from.seat.me.0 in
    let a : length c.args.into.now.cores.items ≡ length v.cores = ap (λ (xs : List Core). length xs) (into_is at) ∙ length-map v.cores (core_of v) in
    let b : length c.args.from.cores.items ≡ length w.cores = ap (λ (xs : List Core). length xs) (from_is at) ∙ length-map w.cores (core_of w) in
    let s = joint_short _ _ _ _ c.join.ensures.joint in let l = length-append v.cores w.cores in omega arith

pub invariant_of-into : goal.invariant_of-into
invariant_of-into c = let at = (goal.at.invariant_of-into c).After-join in let e = c.join.ensures.same.2 in let v : View = c.args.into.now.seat.me.0 in let w : View = c.args.from.seat.me.0 in record {
  bare = ap (λ (m : SeatState). m.1) e ∙ c.args.into.now.bare;
  idle = ap (λ (m : SeatState). m.0.stage) e ∙ c.args.into.now.idle;
  shown = c.append.ensures ∙ ((λ i. into_is at i ++ from_is at i) ∙ (joint_cores v w c.join.ensures.joint ∙ (ap (λ (m : SeatState). map (core_of m.0) m.0.cores) (sym e)
      ∙ ap (λ (o : Option Bool). cores_shown c.join.new.seat.me.0 o) (sym c.requires.rest.0))));
  ready = λ f x. absurd (none_is f (sym c.requires.rest.0 ∙ x));
}
