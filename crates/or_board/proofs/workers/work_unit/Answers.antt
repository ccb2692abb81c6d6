use Rattle.std.proofs.Common.{ℕ, ap, ◌∙◌, subst, arith}
use Rattle.or_turn.specs.declared.view.Settings.{Settings}
use Rattle.or_turn.specs.Schedules.{IsDefined}
use Rattle.or_turn.specs.declared.view.View.{View}
use Rattle.or_turn.specs.SeatViews.{only_of, Turned}
use Rattle.or_turn.specs.Units.{view, settings_in, id_of}
use Rattle.or_turn.proofs.Steps.{count_budget}
use Rattle.or_board.specs.Works.{Works}
use Rattle.or_board.proofs.workers.work_unit.Goals.{After-turn}
use Rattle.or_board.proofs.workers.work_unit.Goals as goal

pub overflow_add-stays : goal.overflow_add-stays
overflow_add-stays g c = let w = c.loop-unit.invariant.works in let n : ℕ = only_of (view c.args.unit.now) in let f = c.requires.fits.few_steps in let t = c.loop-unit.invariant.stays in
    let most = count_budget (settings_in c.args.shared.now) c.requires.fits (view c.loop-unit.unit).seen w.defined n c.requires.starts.below in omega arith

turned : (g : _) (c : After-turn g) → Turned (view c.loop-unit.unit) (view c.turn.new.unit) (only_of (view c.args.unit.now)) c.most_turns-most.result
turned g c = let w = c.loop-unit.invariant.works in let n : ℕ = only_of (view c.args.unit.now) in
    subst (λ (v : View). Turned v (view c.turn.new.unit) n c.most_turns-most.result) c.begin.ensures.view.0 (c.turn.ensures.turned n (ap (λ (v : View). v.cores) c.begin.ensures.view.0 ∙ w.cores_are))

works : (g : _) (c : After-turn g) → Works (id_of c.args.shared.now) (settings_in c.args.shared.now) (only_of (view c.args.unit.now)) c.turn.new.unit
works g c = let w = c.loop-unit.invariant.works in let t = turned g c in record {
  of = c.turn.ensures.of;
  settings = ap (λ (v : View). v.settings) t.same ∙ w.settings;
  cores_are = ap (λ (v : View). v.cores) t.same ∙ w.cores_are;
  rests = c.turn.ensures.rests;
  defined = subst (λ (st : Settings). IsDefined st (view c.turn.new.unit).seen) w.settings t.defined;
}

pub loop-unit-smaller : goal.loop-unit-smaller
loop-unit-smaller g c = let at = (goal.at.loop-unit-smaller g c).After-turn in let t = turned g at in let w = works g at in let n : ℕ = only_of (view c.args.unit.now) in let own = t.own in let some = t.some_turn in
    let most = count_budget (settings_in c.args.shared.now) c.requires.fits (view c.turn.new.unit).seen w.defined n c.requires.starts.below in omega arith

pub loop-unit-preserved : goal.loop-unit-preserved
loop-unit-preserved g c = let at = (goal.at.loop-unit-preserved g c).After-turn in record {
  works = works g at;
  stays = let t = turned g at in let own = t.own in let some = t.some_turn in let e = c.loop-unit.invariant.stays in omega arith;
}
