use Rattle.std.proofs.Common.{◌≤◌, subst, arith, ◌∷◌, None}
use Rattle.or_sched.specs.Places.{DigitIs, DigitTo}
use Rattle.or_sched.specs.HeadPlaces.{AtNumber, field_most}
use Rattle.or_sched.proofs.HeadSteps.{number_no, number_zero, number_none, number_moves}
use Rattle.or_sched.proofs.head.number_step.Goals as goal
use Rattle.or_sched.proofs.head.number_step.Goals.{then-byte-ge48+else-byte-le57, else-byte-ge48}

pub returns-in-None-clause-step : goal.returns-in-None-clause-step
returns-in-None-clause-step c =
    let none : DigitIs c.args.number c.args.byte (field_most c.args.field) None = subst (λ m. DigitIs c.args.number c.args.byte m None) c.most.ensures c.in-None.ensures.digit in
    λ are final end rest f. number_no c.args.field c.args.known final end rest c.args.number c.args.byte none f

pub returns-then-next-eq0-clause-step : goal.returns-then-next-eq0-clause-step
returns-then-next-eq0-clause-step c =
    let digit : DigitTo c.args.number c.args.byte (field_most c.args.field) 0 =
    subst (λ m. DigitTo c.args.number c.args.byte m 0) c.most.ensures (subst (λ k. DigitTo c.args.number c.args.byte c.most.result k) c.if-next-eq0.true c.in-Some.ensures.digit) in
    λ are final end rest f. number_zero c.args.field c.args.known final end rest c.args.number c.args.byte digit f

pub returns-in-None-number-clause-step : goal.returns-in-None-number-clause-step
returns-in-None-number-clause-step c =
    let no_digit : 48 ≤ c.args.byte → c.args.byte ≤ 57 → ⊥ =
    elim c.if-byte-ge48.branch [ then-byte-ge48+else-byte-le57 w ↦ (λ low high. omega arith) | else-byte-ge48 w ↦ (λ low high. omega arith) ] in
    λ are final end rest f. number_none c.args.field c.args.known final end rest c.args.byte no_digit
    (subst (λ o. AtNumber final end c.args.field c.args.known o (c.args.byte ∷ rest)) c.in-None-number.is f)

pub returns-else-next-eq0-clause-step : goal.returns-else-next-eq0-clause-step
returns-else-next-eq0-clause-step c =
    let digit : DigitTo c.args.number c.args.byte (field_most c.args.field) c.in-Some.next =
    subst (λ m. DigitTo c.args.number c.args.byte m c.in-Some.next) c.most.ensures c.in-Some.ensures.digit in
    λ are. (number_moves c.args.field c.args.known c.args.number c.args.byte c.in-Some.next digit, are)
