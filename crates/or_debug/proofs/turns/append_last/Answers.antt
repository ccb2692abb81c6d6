use Rattle.std.proofs.Common.{ap, ◌∙◌, sym, drop, length, length-append, arith}
use Rattle.or_debug.specs.BoardText.{made_text}
use Rattle.or_debug.proofs.turns.append_last.Goals as goal

pub returns-in_err-append_at-clause-full : goal.returns-in_err-append_at-clause-full
returns-in_err-append_at-clause-full c =
    let left = made_text (drop c.loop-index.index c.args.last.now.items) in
    let text = c.loop-index.text.items in
    let long = sym (length-append text left) ∙ ap length c.loop-index.invariant.text in
    let lacks = c.in_err-append_at.ensures.full in
    let more = c.loop-index.invariant.capacity in
    grind (arith, long, lacks, more, length-append)
