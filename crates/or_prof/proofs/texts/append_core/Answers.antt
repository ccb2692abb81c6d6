use Rattle.std.proofs.Common.{ap, ◌∙◌, length, length-append, arith}
use Rattle.std.proofs.lemmas.Result.{on_err_weaker}
use Rattle.or_text.proofs.Kept.{on_err_always}
use Rattle.or_prof.specs.Tally.{count_in}
use Rattle.or_prof.specs.Text.{front_text}
use Rattle.or_prof.proofs.Fitting.{core_length}
use Rattle.or_prof.proofs.texts.append_core.Goals as goal

pub returns-in_err-append_ranked-clause-full : goal.returns-in_err-append_ranked-clause-full
returns-in_err-append_ranked-clause-full c = on_err_always c.from_residual-in_err-append_ranked.result (λ text is.
    let same = core_length c.args.symbols.now c.args.core c.args.tally.now c.functions.result.now c.rank.new.lines.items c.deref.result.now text c.functions.ensures c.in_ok-rank.ensures.ranked c.deref.ensures.value is in
    let lacks = c.in_err-append_ranked.ensures.full in
    omega (arith, same, lacks))

pub returns-clause-full : goal.returns-clause-full
returns-clause-full c = on_err_weaker c.append_hot.result (λ lacks text is.
    let same = core_length c.args.symbols.now c.args.core c.args.tally.now c.functions.result.now c.rank.new.lines.items c.deref.result.now text c.functions.ensures c.in_ok-rank.ensures.ranked c.deref.ensures.value is in
    let front = front_text c.args.symbols.now c.args.core c.args.tally.now.steps (count_in c.args.tally.now) c.deref.result.now in
    let written = ap length c.in_ok-append_ranked.ensures.text ∙ length-append c.args.out.now.items front in
    let own = lacks is.hot is.is_hot in
    let more = c.in_ok-append_ranked.ensures.capacity in
    grind (arith, same, written, own, more)) c.append_hot.ensures.full
