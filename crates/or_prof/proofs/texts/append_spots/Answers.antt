use Rattle.std.proofs.Common.{ap, ◌∙◌, take, length, length-append, rules, arith}
use Rattle.std.specs.List.{flat_map}
use Rattle.std.proofs.lemmas.List.Folds.{length-flat_map-take}
use Rattle.or_prof.specs.Text.{spot_text}
use Rattle.or_prof.proofs.texts.append_spots.Goals as goal

pub returns-in_err-append_spot-clause-full : goal.returns-in_err-append_spot-clause-full
returns-in_err-append_spot-clause-full c =
    let shown = spot_text in
    let here = c.loop-line.line-index in
    let within = length-flat_map-take shown c.args.lines.now here (record { count = 0; key = 0 }) (search rules) in
    let written = ap length c.loop-line.invariant.text ∙ length-append c.args.out.now.items (flat_map shown (take here c.args.lines.now)) in
    let lacks = c.in_err-append_spot.ensures.full in
    let more = c.loop-line.invariant.capacity in
    grind (arith, within, written, lacks, more)
