use Rattle.std.proofs.Common.{ap, ◌∙◌, None, take, length, length-append, rules, arith}
use Rattle.std.specs.List.{flat_map}
use Rattle.std.proofs.lemmas.List.Folds.{length-flat_map-take}
use Rattle.or_debug.specs.Hits.{break_line}
use Rattle.or_debug.proofs.points.append_breaks.Goals as goal

pub returns-in_err-append_break-clause-full : goal.returns-in_err-append_break-clause-full
returns-in_err-append_break-clause-full c =
    let shown = break_line c.args.made in
    let here = c.loop-point.point-index in
    let within = length-flat_map-take shown c.args.points.now here (record { core = None; pc = 0 }) (search rules) in
    let written = ap length c.loop-point.invariant.text ∙ length-append c.args.text.now.items (flat_map shown (take here c.args.points.now)) in
    let lacks = c.in_err-append_break.ensures.full in
    let more = c.loop-point.invariant.capacity in
    grind (arith, within, written, lacks, more)
