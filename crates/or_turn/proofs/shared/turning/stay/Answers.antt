use Rattle.std.proofs.Common.{ℕ, ◌+◌, ◌-◌, List, ◌++◌, replicate, arith}
use Rattle.or_turn.specs.declared.view.Settings.{Settings}
use Rattle.or_turn.specs.Stays.{MadeTurns}
use Rattle.or_turn.proofs.shared.turning.stay.Goals.{After-goes_on}
use Rattle.or_turn.proofs.Turn as turn
use Rattle.or_turn.proofs.shared.turning.stay.Goals as goal

pub make_turn-requires-clause-running : goal.make_turn-requires-clause-running
make_turn-requires-clause-running c = let b = c.requires.begun in turn.still_runs b.0 b.1 b.2 _ _ _ b.3

pub make_turn-requires-clause-known : goal.make_turn-requires-clause-known
make_turn-requires-clause-known c = let b = c.requires.begun in turn.still_known b.0 b.1 b.2 _ _ _ b.3

pub make_turn-requires-clause-room : goal.make_turn-requires-clause-room
make_turn-requires-clause-room c = let b = c.requires.begun in let h = b.3.has in let r = b.3.runs in
    (turn.console_room b.0 b.1 b.2 _ _ h r, turn.schedule_room b.0 b.1 b.2 _ _ h r, turn.marks_room b.0 b.1 b.2 _ _ h r)

pub loop-left-init : goal.loop-left-init
loop-left-init c = let some = c.requires.most in let e = c.make_turn.ensures in record {
  few = omega arith;
  made = λ st turns d h. record { made = 1; some = omega arith; few = omega arith; has = turn.ends_begun st turns d _ _ _ h _ _ (e.state, e.bus, e.schedule, e.marks, e.kept.0, e.kept.1) };
}

-- what the stay has made so far, in the terms of the requirement
this : (c : After-goes_on) → let b = c.requires.begun in MadeTurns b.0 b.1 b.2 1 (c.args.most - c.loop-left.left) c.loop-left.core c.loop-left.transfer
this c = let b = c.requires.begun in c.loop-left.invariant.made b.0 b.1 b.2 b.3

pub make_turn-requires-in-loop-left-clause-known : goal.make_turn-requires-in-loop-left-clause-known
make_turn-requires-in-loop-left-clause-known c = let b = c.requires.begun in let t = this (goal.at.make_turn-requires-in-loop-left-clause-known c).After-goes_on in let r = c.goes_on.ensures c.if-goes_on.true in
    (turn.known b.0 _ b.2 _ _ t.has r, turn.small b.0 _ b.2 _ _ t.has r)

pub make_turn-requires-in-loop-left-clause-room : goal.make_turn-requires-in-loop-left-clause-room
make_turn-requires-in-loop-left-clause-room c = let b = c.requires.begun in let t = this (goal.at.make_turn-requires-in-loop-left-clause-room c).After-goes_on in let r = c.goes_on.ensures c.if-goes_on.true in
    (turn.console_room b.0 _ b.2 _ _ t.has r, turn.schedule_room b.0 _ b.2 _ _ t.has r, turn.marks_room b.0 _ b.2 _ _ t.has r)

pub loop-left-preserved : goal.loop-left-preserved
loop-left-preserved c = let e = c.make_turn-in-loop-left.ensures in let few = c.loop-left.invariant.few in let r = c.goes_on.ensures c.if-goes_on.true in record {
  few = omega arith;
  made = λ st turns d h. let m = c.loop-left.invariant.made st turns d h in let less = m.few in record {
    made = m.made + 1;
    some = omega arith;
    few = omega arith;
    has = turn.one_turn_more st turns d m.made _ _ (turn.ends_turn st (turns ++ replicate m.made d) d _ _ m.has r _ _ (e.state, e.bus, e.schedule, e.marks, e.kept.0, e.kept.1));
  };
}

made_most : (st : Settings) (turns : List ℕ) (c most left : ℕ) (core : _) (transfer : _) → MadeTurns st turns c 1 (most - left) core transfer → MadeTurns st turns c 1 most core transfer
made_most st turns c most left core transfer m = let less = m.few in record { made = m.made; some = m.some; few = omega arith; has = m.has }

pub returns-else-goes_on : goal.returns-else-goes_on
returns-else-goes_on c = λ st turns d h. made_most st turns d _ _ _ _ (c.loop-left.invariant.made st turns d h)

pub returns-after-loop-left : goal.returns-after-loop-left
returns-after-loop-left c = λ st turns d h. made_most st turns d _ _ _ _ (c.loop-left.invariant.made st turns d h)
