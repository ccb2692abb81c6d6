use Rattle.std.proofs.Common.{arith, ◌≡◌, ◌≤◌, ◌+◌, ◌-◌, subst}
use Rattle.or_sched.specs.Places.{StepIs}
use Rattle.or_sched.specs.declared.places.Place.TheVariants.{Run}
use Rattle.or_sched.proofs.StepLemmas.{lone_dooms}
use Rattle.or_sched.proofs.step.run.Goals as goal
use Rattle.or_sched.proofs.step.run.Goals.{then-byte-ge48+else-byte-le57, else-byte-ge48}

pub returns-then-byte-le57-clause-step : goal.returns-then-byte-le57-clause-step
returns-then-byte-le57-clause-step c =
    let same : 48 + (c.args.byte - 48) ≡ c.args.byte = omega arith in
    subst (λ b. StepIs c.args.limits.now (Run c.args.begun) b c.digit.result) same c.digit.ensures.step

pub returns-then-begun-eq1-clause-step : goal.returns-then-begun-eq1-clause-step
returns-then-begun-eq1-clause-step c =
    let no_digit : 48 ≤ c.args.byte → c.args.byte ≤ 57 → ⊥ =
    elim c.if-byte-ge48.branch [ then-byte-ge48+else-byte-le57 w ↦ (λ low high. omega arith) | else-byte-ge48 w ↦ (λ low high. omega arith) ] in
    lone_dooms c.args.limits.now c.args.begun c.args.byte 0 c.requires.limits c.requires.sound no_digit c.if-begun-eq1.true
