use Rattle.std.proofs.Common.{arith, ◌≡◌, ◌≤◌, ◌-◌, ◌∷◌, [], sym, subst, Some, inr}
use Rattle.or_sched.specs.Places.{StepKeeps, IsNumberBelow}
use Rattle.or_sched.specs.declared.places.Place.TheVariants.{Console}
use Rattle.or_sched.proofs.StepLemmas.{console_no_digit, console_no_end, console_none, console_end}
use Rattle.or_sched.proofs.step.console.Goals as goal
use Rattle.or_sched.proofs.step.console.Goals.{then-byte-ge48+else-byte-le57, else-byte-ge48}

pub returns-in-None-clause-step : goal.returns-in-None-clause-step
returns-in-None-clause-step c = console_no_digit c.args.limits.now c.args.writes c.args.number c.args.total c.args.byte c.in-None.ensures.digit

pub returns-then-byte-ne10-clause-step : goal.returns-then-byte-ne10-clause-step
returns-then-byte-ne10-clause-step c =
    let no_digit : 48 ≤ c.args.byte → c.args.byte ≤ 57 → ⊥ =
    elim c.if-byte-ge48.branch [ then-byte-ge48+else-byte-le57 w ↦ (λ low high. omega arith) | else-byte-ge48 w ↦ (λ low high. omega arith) ] in
    console_no_end c.args.limits.now c.args.writes c.args.number c.args.total c.args.byte c.requires.limits no_digit c.if-byte-ne10.true

pub returns-in-None-number-clause-step : goal.returns-in-None-number-clause-step
returns-in-None-number-clause-step c =
    console_none c.args.limits.now c.args.writes c.args.number c.args.total c.args.byte c.requires.limits (λ low high. omega arith) c.in-None-number.is

pub returns-in-Some-number-clause-step : goal.returns-in-Some-number-clause-step
returns-in-Some-number-clause-step c =
    let fits : c.in-Some-number.n ≤ c.args.limits.now.turns - c.args.total = subst (λ o. IsNumberBelow o (c.args.limits.now.turns - c.args.total)) c.in-Some-number.is c.requires.sound.0 in
    let feed : c.args.byte ≡ 10 = omega arith in
    subst (λ o. StepKeeps c.args.limits.now (Console c.args.writes o c.args.total) c.args.byte (inr (record { writes = c.args.writes; console = c.in-Some-number.n }) ∷ []) c.onward.result) (sym c.in-Some-number.is)
    (subst (λ b. StepKeeps c.args.limits.now (Console c.args.writes (Some c.in-Some-number.n) c.args.total) b (inr (record { writes = c.args.writes; console = c.in-Some-number.n }) ∷ []) c.onward.result) (sym feed)
    (console_end c.args.limits.now c.args.writes c.in-Some-number.n c.args.total c.onward.result c.requires.limits c.requires.sound.1 fits c.onward.ensures.leads))
