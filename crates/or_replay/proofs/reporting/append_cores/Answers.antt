use Rattle.std.proofs.Common.{◌∙◌, ap, take, length, length-append, arith, rules}
use Rattle.std.proofs.lemmas.Grind.{common_steps}
use Rattle.std.proofs.lemmas.List.Folds.{length-flat_map-take}
use Rattle.or_text.proofs.Kept.{on_err_always}
use Rattle.or_model.specs.Core.{Core}
use Rattle.or_replay.specs.Report.{core_block, core_blocks, shown_counts}
use Rattle.or_replay.proofs.reporting.append_cores.Goals as goal

pub returns-in_err-append_core-clause-full : goal.returns-in_err-append_core-clause-full
returns-in_err-append_core-clause-full c = on_err_always c.from_residual.result (λ world is.
    let here = c.loop-core.core-index in
    let shown = λ (core : Core). core_block core (shown_counts world core.number) in
    let within = length-flat_map-take shown c.args.cores.now here c.core-item.result (search rules) in
    let written = ap length (c.loop-core.invariant.text world is) ∙ length-append c.args.out.now.items (core_blocks world (take here c.args.cores.now)) in
    let counts = c.counts.ensures.told world is in
    let lacks = c.in_err-append_core.ensures.full in
    let more = c.loop-core.invariant.capacity in
    grind (arith, common_steps, within, written, counts, lacks, more))
