use Rattle.std.proofs.Common.{arith, ◌≡◌, ◌+◌, ◌*◌, ◌<◌, ◌^◌, length, inl, inr}
use Rattle.or_sched.specs.RunRests.{number_text}
use Rattle.or_sched.proofs.Numbers.{number_longer}
use Rattle.or_sched.proofs.StepLemmas.{digit_dooms, digit_moves}
use Rattle.or_sched.proofs.step.digit.Goals as goal

pub returns-then-next-eq0-clause-step : goal.returns-then-next-eq0-clause-step
returns-then-next-eq0-clause-step c =
    digit_dooms c.args.limits.now c.args.begun c.args.digit (10 * c.args.begun.number + c.from.result) c.requires.limits c.requires.sound c.requires.digit
    (omega (arith, c.from.ensures)) (λ some fits lone. omega arith)

pub returns-then-next-begun-clause-step : goal.returns-then-next-begun-clause-step
returns-then-next-begun-clause-step c =
    digit_dooms c.args.limits.now c.args.begun c.args.digit (10 * c.args.begun.number + c.from.result) c.requires.limits c.requires.sound c.requires.digit
    (omega (arith, c.from.ensures)) (λ some fits lone. omega arith)

pub returns-then-begun-lt10-clause-step : goal.returns-then-begun-lt10-clause-step
returns-then-begun-lt10-clause-step c =
    digit_dooms c.args.limits.now c.args.begun c.args.digit (10 * c.args.begun.number + c.from.result) c.requires.limits c.requires.sound c.requires.digit
    (omega (arith, c.from.ensures)) (λ some fits lone. omega (arith, lone c.if-next-eq1.true))

pub returns-clause-step : goal.returns-clause-step
returns-clause-step c =
    digit_moves c.args.limits.now c.args.begun c.args.digit (10 * c.args.begun.number + c.from.result) c.requires.limits c.requires.sound c.requires.digit
    (omega (arith, c.from.ensures)) (omega arith)

pub returns-clause-places : goal.returns-clause-places
returns-clause-places c =
    let low : c.args.begun.block.left < 2 ^ 32 = omega (arith, c.requires.limits.turns, c.requires.sound.2.0) in
    let longer : length (number_text (10 * c.args.begun.number + c.from.result)) ≡ length (number_text c.args.begun.number) + 1 =
    number_longer c.args.begun.number c.args.digit (10 * c.args.begun.number + c.from.result) c.requires.digit (omega (arith, c.from.ensures)) (omega arith) (omega (arith, c.requires.sound.3)) in
    λ room n at. elim at [ inl e ↦ inl (e.0, omega (arith, e.1)) | inr e ↦ inr (e.0, e.1, omega (arith, e.2)) ]
