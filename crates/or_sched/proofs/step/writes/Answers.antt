use Rattle.std.proofs.Common.{arith, ◌≡◌, ◌≤◌, ◌-◌, [], sym, subst, Some, None}
use Rattle.or_sched.specs.Places.{StepKeeps, IsNumberBelow}
use Rattle.or_sched.specs.declared.places.Place.TheVariants.{Writes, Console}
use Rattle.or_sched.proofs.StepLemmas.{writes_no_digit, writes_no_end, writes_none, writes_end}
use Rattle.or_sched.proofs.step.writes.Goals as goal
use Rattle.or_sched.proofs.step.writes.Goals.{then-byte-ge48+else-byte-le57, else-byte-ge48}

pub returns-in-None-clause-step : goal.returns-in-None-clause-step
returns-in-None-clause-step c = writes_no_digit c.args.limits.now c.args.number c.args.total c.args.byte c.in-None.ensures.digit

pub returns-then-byte-ne32-clause-step : goal.returns-then-byte-ne32-clause-step
returns-then-byte-ne32-clause-step c =
    let no_digit : 48 ≤ c.args.byte → c.args.byte ≤ 57 → ⊥ =
    elim c.if-byte-ge48.branch [ then-byte-ge48+else-byte-le57 w ↦ (λ low high. omega arith) | else-byte-ge48 w ↦ (λ low high. omega arith) ] in
    writes_no_end c.args.limits.now c.args.number c.args.total c.args.byte c.requires.limits no_digit c.if-byte-ne32.true

pub returns-in-None-number-clause-step : goal.returns-in-None-number-clause-step
returns-in-None-number-clause-step c =
    writes_none c.args.limits.now c.args.number c.args.total c.args.byte c.requires.limits (λ low high. omega arith) c.in-None-number.is

pub returns-in-Some-number-clause-step : goal.returns-in-Some-number-clause-step
returns-in-Some-number-clause-step c =
    let fits : c.in-Some-number.n ≤ c.args.limits.now.turns - c.args.total = subst (λ o. IsNumberBelow o (c.args.limits.now.turns - c.args.total)) c.in-Some-number.is c.requires.sound.0 in
    let feed : c.args.byte ≡ 32 = omega arith in
    subst (λ o. StepKeeps c.args.limits.now (Writes o c.args.total) c.args.byte [] (Console c.in-Some-number.n None c.args.total)) (sym c.in-Some-number.is)
    (subst (λ b. StepKeeps c.args.limits.now (Writes (Some c.in-Some-number.n) c.args.total) b [] (Console c.in-Some-number.n None c.args.total)) (sym feed)
    (writes_end c.args.limits.now c.in-Some-number.n c.args.total c.requires.limits fits))
