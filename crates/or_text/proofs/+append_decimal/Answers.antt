use Rattle.std.proofs.Common.{arith, rules, ap, ◌∙◌, ◌/◌, length, length-append, decimal}
use Rattle.or_text.proofs.Digits.{last_digit, decimal_longer}
use Rattle.or_text.proofs.+append_decimal.Goals as goal

pub returns-clause-text : goal.returns-clause-text
returns-clause-text t c = last_digit c.args.n c.args.out.now.items c.append_decimal.new.out.items _ (search rules) (search rules) (omega arith) (omega arith)

pub returns-in_err-append_decimal-clause-full : goal.returns-in_err-append_decimal-clause-full
returns-in_err-append_decimal-clause-full t c =
    let longer = decimal_longer c.args.n (omega arith) (omega arith) in
    grind (arith, longer)

pub returns-in_err-push-2-clause-full : goal.returns-in_err-push-2-clause-full
returns-in_err-push-2-clause-full t c =
    let longer = decimal_longer c.args.n (omega arith) (omega arith) in
    let front = ap length c.in_ok-append_decimal.ensures.text ∙ length-append c.args.out.now.items (decimal (c.args.n / 10)) in
    grind (arith, longer, front)
