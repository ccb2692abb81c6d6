use Rattle.std.proofs.Common.{ap, ◌∙◌, take, length, length-append, rules, arith, None}
use Rattle.std.specs.List.{flat_map}
use Rattle.std.proofs.lemmas.List.Folds.{length-flat_map-take}
use Rattle.or_trace.specs.Text.{step_text, steps_text}
use Rattle.or_trace.proofs.steps.append_steps.Goals as goal

pub returns-in_err-append_step-clause-full : goal.returns-in_err-append_step-clause-full
unfolding steps_text
returns-in_err-append_step-clause-full c =
    let shown = step_text c.args.labels.now in
    let here = c.loop-step.step-index in
    let within = length-flat_map-take shown c.args.steps.now here (record { pc = 0; word = None; exception = None }) (search rules) in
    let written = ap length c.loop-step.invariant.text ∙ length-append c.args.out.now.items (flat_map shown (take here c.args.steps.now)) in
    let lacks = c.in_err-append_step.ensures.full in
    let more = c.loop-step.invariant.capacity in
    grind (arith, within, written, lacks, more)
