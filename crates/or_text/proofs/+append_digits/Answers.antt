use Rattle.std.proofs.Common.{arith, rules, ap, ◌∙◌, ◌/◌, true, length, length-append}
use Rattle.std.specs.Fmt.{digits}
use Rattle.or_text.proofs.Digits.{last_hex_digit, hex_longer}
use Rattle.or_text.proofs.+append_digits.Goals as goal

pub returns-clause-text : goal.returns-clause-text
returns-clause-text t c = last_hex_digit c.args.n c.args.out.now.items c.append_digits.new.out.items _ (search rules) (search rules) (omega arith) (omega arith)

pub returns-in_err-append_digits-clause-full : goal.returns-in_err-append_digits-clause-full
returns-in_err-append_digits-clause-full t c =
    let longer = hex_longer c.args.n (omega arith) (omega arith) in
    grind (arith, longer)

pub returns-in_err-push-2-clause-full : goal.returns-in_err-push-2-clause-full
returns-in_err-push-2-clause-full t c =
    let longer = hex_longer c.args.n (omega arith) (omega arith) in
    let front = ap length c.in_ok-append_digits.ensures.text ∙ length-append c.args.out.now.items (digits 16 true (c.args.n / 16)) in
    grind (arith, longer, front)
