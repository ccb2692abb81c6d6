use Rattle.std.proofs.Common.{ap, ◌∙◌, take, length, length-append, rules, arith}
use Rattle.std.proofs.lemmas.List.Folds.{length-flat_map-take}
use Rattle.or_elf.specs.LabelText.{name_text, names_text}
use Rattle.or_elf.proofs.label_writer.append_names.Goals as goal

pub returns-in_err-append_name-clause-full : goal.returns-in_err-append_name-clause-full
returns-in_err-append_name-clause-full c =
    let here = c.loop-label.label-index in
    let label = c.label-item.result in
    let within = length-flat_map-take name_text c.args.labels.now here label (search rules) in
    let same = ap (λ l. length (name_text l)) c.label-item.is in
    let written = ap length c.loop-label.invariant.text ∙ length-append c.args.out.now.items (names_text (take here c.args.labels.now)) in
    let lacks = c.in_err-append_name.ensures.full in
    let more = c.loop-label.invariant.capacity in
    grind (arith, within, same, written, lacks, more)
