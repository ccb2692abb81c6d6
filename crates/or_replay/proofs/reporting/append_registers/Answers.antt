use Rattle.std.proofs.Common.{ap, sym, ◌∙◌, ◌++◌, length, length-append, append-nil, arith, rules}
use Rattle.std.proofs.lemmas.Grind.{common_steps}
use Rattle.or_text.specs.Hexadecimal.{word_text}
use Rattle.or_replay.specs.Report.{registers_text}
use Rattle.or_replay.proofs.Registers.{one_register_more, register_fits, registers-none}
use Rattle.or_replay.proofs.reporting.append_registers.Goals as goal

pub loop-n-preserved : goal.loop-n-preserved
loop-n-preserved c = record {
  text = one_register_more c.args.core.now c.loop-n.n c.register.result c.args.out.now.items c.loop-n.out.items c.append_word.new.out.items c.append_behind.new.out.items
      c.loop-n.invariant.text c.register.ensures c.in_ok-append_word.ensures.text c.in_ok-append_behind.ensures.text;
  capacity = omega arith;
  kept = grind (arith, common_steps);
}

pub loop-n-init : goal.loop-n-init
loop-n-init c = record {
  text = sym (ap (λ l. c.args.out.now.items ++ l) (registers-none c.args.core.now) ∙ append-nil c.args.out.now.items);
  capacity = search rules;
  kept = grind (arith, common_steps);
}

pub returns-in_err-append_word-clause-full : goal.returns-in_err-append_word-clause-full
returns-in_err-append_word-clause-full c =
    let within = register_fits c.args.core.now c.loop-n.n 32 (omega arith) in
    let word = ap (λ w. length (word_text w)) c.register.ensures in
    let written = ap length c.loop-n.invariant.text ∙ length-append c.args.out.now.items (registers_text c.args.core.now c.loop-n.n) in
    let lacks = c.in_err-append_word.ensures.full in
    let more = c.loop-n.invariant.capacity in
    grind (arith, within, word, written, lacks, more)

pub returns-in_err-append_behind-clause-full : goal.returns-in_err-append_behind-clause-full
returns-in_err-append_behind-clause-full c =
    let within = register_fits c.args.core.now c.loop-n.n 32 (omega arith) in
    let word = ap (λ w. length (word_text w)) c.register.ensures in
    let written = ap length c.loop-n.invariant.text ∙ length-append c.args.out.now.items (registers_text c.args.core.now c.loop-n.n) in
    let then = ap length c.in_ok-append_word.ensures.text ∙ length-append c.loop-n.out.items (word_text c.register.result) in
    let lacks = c.in_err-append_behind.ensures.full in
    let more = c.loop-n.invariant.capacity in
    grind (arith, within, word, written, then, lacks, more)
