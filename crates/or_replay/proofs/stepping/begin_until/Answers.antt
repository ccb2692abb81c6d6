use Rattle.std.proofs.Common.{◌∙◌, ◌+◌, refl, ap, sym, subst, arith}
use Rattle.std.specs.Prelude.{is_none}
use Rattle.or_model.specs.Core.{Core}
use Rattle.or_model.specs.Step.{is_private}
use Rattle.or_replay.specs.Stepping.{IsInside}
use Rattle.or_model.proofs.Executes.{SameSettings-trans}
use Rattle.or_replay.proofs.BegunTurns.{inside_more, hit_here, hit_waits, hit_stopped, hit_none, begun_waits, begun_stopped, begun_all}
use Rattle.or_replay.proofs.stepping.begin_until.Goals as goal

pub returns-then-pauses-clause-paused : goal.returns-then-pauses-clause-paused
returns-then-pauses-clause-paused c first inside =
    let made = c.loop-made.made in
    let new = c.try_private.new.self in
    let stepped = c.in-Stepped.ensures.tried in
    let here = inside_more first c.loop-made.core new made (c.loop-made.invariant.inside first inside) c.loop-made-test.true stepped.0 stepped.1 stepped.2 in
    let pause = c.pauses.ensures.pauses c.if-pauses.true in (
      c.loop-made.invariant.none first inside ∙ hit_here c.args.points.now c.args.most c.args.number first new made here pause.0 pause.1.0 pause.1.1,
      record { inside = here; runs = pause.1.0; fewer = pause.0 },
    )

pub returns-in-NeedsBus-clause-paused : goal.returns-in-NeedsBus-clause-paused
returns-in-NeedsBus-clause-paused c first inside =
    let made = c.loop-made.made in
    let new = c.try_private.new.self in
    let waits = c.in-NeedsBus.ensures.tried in
    let here = subst (λ (k : Core). IsInside first made k) (sym waits.2) (c.loop-made.invariant.inside first inside) in
    let runs = ap (λ (k : Core). k.stop) waits.2 ∙ waits.0 in
    let private = ap is_private waits.2 ∙ waits.1 in (
      c.loop-made.invariant.none first inside ∙ hit_waits c.args.points.now c.args.most c.args.number first new made here c.loop-made-test.true runs private,
      begun_waits first new made here c.loop-made-test.true runs private,
    )

pub returns-in-Stopped-clause-paused : goal.returns-in-Stopped-clause-paused
returns-in-Stopped-clause-paused c first inside =
    let made = c.loop-made.made in
    let new = c.try_private.new.self in
    let stopped = c.in-Stopped.ensures.tried in
    let here = subst (λ (k : Core). IsInside first made k) (sym stopped.1) (c.loop-made.invariant.inside first inside) in
    let no = ap (λ (k : Core). is_none k.stop) stopped.1 ∙ stopped.0 in (
      c.loop-made.invariant.none first inside ∙ hit_stopped c.args.points.now c.args.most c.args.number first new made here c.loop-made-test.true no,
      begun_stopped first new made here c.loop-made-test.true no,
    )

pub returns-clause-paused : goal.returns-clause-paused
returns-clause-paused c first inside =
    let made = c.loop-made.made in
    let here = c.loop-made.invariant.inside first inside in (
      c.loop-made.invariant.none first inside ∙ hit_none c.args.points.now c.args.most c.args.number first c.loop-made.core made here (omega (arith, c.loop-made-test.false)),
      begun_all first c.loop-made.core made here (omega (arith, c.loop-made-test.false)),
    )

pub loop-made-preserved : goal.loop-made-preserved
loop-made-preserved c =
    let made = c.loop-made.made in
    let new = c.try_private.new.self in
    let stepped = c.in-Stepped.ensures.tried in
    let more : (first : Core) → IsInside first c.args.steps c.args.core.now → IsInside first (made + 1) new = λ first inside. inside_more first c.loop-made.core new made (c.loop-made.invariant.inside first inside) c.loop-made-test.true stepped.0 stepped.1 stepped.2 in
    record {
      inside = more;
      none = λ first inside. c.loop-made.invariant.none first inside ∙ c.pauses.ensures.passes c.if-pauses.false first made refl (more first inside);
      same = λ ends. absurd (omega (arith, ends, c.loop-made.auto.made));
      settings = SameSettings-trans c.loop-made.invariant.settings c.try_private.ensures.settings;
      count = omega (arith, c.loop-made.invariant.count, c.in-Stepped.ensures.steps);
    }
