use Rattle.std.proofs.Common.{◌≡◌, ◌≢◌, ◌∙◌, ◌+◌, ◌*◌, ◌-◌, ◌≤◌, ap, subst, arith, Some}
use Rattle.or_sched.specs.Places.{IsNumberBelow}
use Rattle.or_sched.proofs.Fields.{digit_zero, digit_within, longer_within, value_of}
use Rattle.or_sched.proofs.step.more_digits.Goals as goal

pub returns-in-None-clause-digit : goal.returns-in-None-clause-digit
returns-in-None-clause-digit c =
    let some : c.args.number ≢ Some 0 = λ e. cc in
    let next : c.from-digit.result ≡ 10 * value_of c.args.number + (c.args.byte - 48) = omega (arith, ap value_of c.in-None.is, c.from-digit.ensures) in
    digit_within c.args.number c.args.byte c.args.most _ c.within.result c.requires.low c.requires.high c.requires.most (omega arith) some next c.within.ensures

pub returns-then-n-eq0-clause-digit : goal.returns-then-n-eq0-clause-digit
returns-then-n-eq0-clause-digit c =
    digit_zero c.args.number c.args.byte c.args.most c.requires.low c.requires.high c.requires.most (c.in-Some.is ∙ ap Some c.if-n-eq0.true)

pub returns-else-n-eq0-clause-digit : goal.returns-else-n-eq0-clause-digit
returns-else-n-eq0-clause-digit c =
    let some : c.args.number ≢ Some 0 = λ e. let same : c.in-Some.n ≡ 0 = cc in c.if-n-eq0.false same in
    let below : c.in-Some.n ≤ c.args.most = subst (λ o. IsNumberBelow o c.args.most) c.in-Some.is c.requires.number in
    let next : 10 * c.in-Some.n + c.from-digit.result ≡ 10 * value_of c.args.number + (c.args.byte - 48) = omega (arith, ap value_of c.in-Some.is, c.from-digit.ensures) in
    digit_within c.args.number c.args.byte c.args.most _ c.within-else-n-eq0.result c.requires.low c.requires.high c.requires.most (omega arith) some next c.within-else-n-eq0.ensures

pub returns-in-None-clause-longer : goal.returns-in-None-clause-longer
returns-in-None-clause-longer c =
    let some : c.args.number ≢ Some 0 = λ e. cc in
    let next : c.from-digit.result ≡ 10 * value_of c.args.number + (c.args.byte - 48) = omega (arith, ap value_of c.in-None.is, c.from-digit.ensures) in
    longer_within c.args.number c.args.byte c.args.most c.from-digit.result c.within.result c.requires.low c.requires.high (omega arith) some next c.within.ensures

pub returns-else-n-eq0-clause-longer : goal.returns-else-n-eq0-clause-longer
returns-else-n-eq0-clause-longer c =
    let some : c.args.number ≢ Some 0 = λ e. let same : c.in-Some.n ≡ 0 = cc in c.if-n-eq0.false same in
    let below : c.in-Some.n ≤ c.args.most = subst (λ o. IsNumberBelow o c.args.most) c.in-Some.is c.requires.number in
    let next : 10 * c.in-Some.n + c.from-digit.result ≡ 10 * value_of c.args.number + (c.args.byte - 48) = omega (arith, ap value_of c.in-Some.is, c.from-digit.ensures) in
    longer_within c.args.number c.args.byte c.args.most (10 * c.in-Some.n + c.from-digit.result) c.within-else-n-eq0.result c.requires.low c.requires.high (omega arith) some next c.within-else-n-eq0.ensures
