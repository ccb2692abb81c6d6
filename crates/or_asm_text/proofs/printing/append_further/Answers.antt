use Rattle.std.proofs.Common.{ap, ◌∙◌, take, length, length-append, rules, arith}
use Rattle.std.specs.List.{flat_map}
use Rattle.std.proofs.lemmas.List.Folds.{length-flat_map-take}
use Rattle.or_asm_text.specs.declared.operands.Slot.TheVariants.{D}
use Rattle.or_asm_text.specs.Texts.{next_text}
use Rattle.or_asm_text.proofs.printing.append_further.Goals as goal

pub returns-in_err-append_next-clause-full : goal.returns-in_err-append_next-clause-full
returns-in_err-append_next-clause-full c =
    let shown = next_text c.args.pc c.args.operands.now in
    let here = c.loop-slot.slot-index in
    let within = length-flat_map-take shown c.args.slots.now here D (search rules) in
    let written = ap length c.loop-slot.invariant.text ∙ length-append c.args.out.now.items (flat_map shown (take here c.args.slots.now)) in
    let lacks = c.in_err-append_next.ensures.full in
    let more = c.loop-slot.invariant.capacity in
    grind (arith, within, written, lacks, more)
