use Rattle.std.proofs.Common.{◌≡◌, ◌++◌, rules, arith, codes}
use Rattle.std.proofs.lemmas.Grind.{common_steps}
use Rattle.or_replay.specs.Report.{field_text, slot_text, place_line}
use Rattle.or_replay.proofs.Grouped.{then_two}
use Rattle.or_replay.proofs.reporting.append_place.Goals as goal

pub returns-clause-text : goal.returns-clause-text
unfolding place_line
returns-clause-text c =
    let core = c.args.core.now in
    let old = c.args.out.now.items in
    let start : c.append_pc.new.out.items ≡ old ++ (field_text (codes "pc ") core.pc ++ codes " slot " ++ slot_text core.branch) = search rules in
    let more : c.append_pair.new.out.items ≡ c.append_pc.new.out.items ++ (field_text (codes " sr ") core.sr ++ field_text (codes " epcr ") core.epcr) = search rules in
    let last : c.append_pair-2.new.out.items ≡ c.append_pair.new.out.items ++ (field_text (codes " eear ") core.eear ++ field_text (codes " esr ") core.esr) = search rules in
    let front : c.append_pair-2.new.out.items ≡ old ++ (field_text (codes "pc ") core.pc ++ codes " slot " ++ slot_text core.branch ++ field_text (codes " sr ") core.sr
    ++ field_text (codes " epcr ") core.epcr ++ field_text (codes " eear ") core.eear ++ field_text (codes " esr ") core.esr) = then_two old _ _ _ _ _ (then_two old _ _ _ _ _ start more) last in
    grind (arith, common_steps, front)
