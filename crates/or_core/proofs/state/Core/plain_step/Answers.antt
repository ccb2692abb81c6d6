use Rattle.std.proofs.Common.{◌/◌, ◌∙◌, sym, ap}
use Rattle.or_core.proofs.Controls.{quiet-control}
use Rattle.or_core.proofs.Quiets.{plain_step}
use Rattle.or_core.proofs.state.Core.plain_step.Goals as goal

pub count_plain-requires-clause-still : goal.count_plain-requires-clause-still
count_plain-requires-clause-still c =
    let made = plain_step c.args.self.now c.execute.new.self c.args.insn c.requires.next (sym c.in-Some.ensures.plain) (rw c.in-Ok.is at c.in-Some.ensures.outcome) in
    ap (λ n. n / 0x40000000) made.control.ttmr ∙ c.requires.quiet.still

pub count_plain-requires-clause-running : goal.count_plain-requires-clause-running
count_plain-requires-clause-running c =
    let made = plain_step c.args.self.now c.execute.new.self c.args.insn c.requires.next (sym c.in-Some.ensures.plain) (rw c.in-Ok.is at c.in-Some.ensures.outcome) in
    made.control.stop ∙ c.requires.running

pub returns-in-Ok-clause-made : goal.returns-in-Ok-clause-made
returns-in-Ok-clause-made c = λ stepped.
    let made = plain_step c.args.self.now c.execute.new.self c.args.insn c.requires.next (sym c.in-Some.ensures.plain) (rw c.in-Ok.is at c.in-Some.ensures.outcome) in
    (made.alone, c.count_plain.ensures.state ∙ sym made.step)

pub returns-in-Ok-clause-quiet : goal.returns-in-Ok-clause-quiet
returns-in-Ok-clause-quiet c =
    let made = plain_step c.args.self.now c.execute.new.self c.args.insn c.requires.next (sym c.in-Some.ensures.plain) (rw c.in-Ok.is at c.in-Some.ensures.outcome) in
    quiet-control _ _ (quiet-control _ _ c.requires.quiet made.control) c.count_plain.ensures.control

pub returns-in-Ok-clause-running : goal.returns-in-Ok-clause-running
returns-in-Ok-clause-running c =
    let made = plain_step c.args.self.now c.execute.new.self c.args.insn c.requires.next (sym c.in-Some.ensures.plain) (rw c.in-Ok.is at c.in-Some.ensures.outcome) in
    c.count_plain.ensures.control.stop ∙ made.control.stop ∙ c.requires.running
