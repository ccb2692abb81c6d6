use Rattle.std.proofs.Common.{◌≡◌, ◌++◌, rules, arith, codes}
use Rattle.std.proofs.lemmas.Grind.{common_steps}
use Rattle.or_replay.specs.Report.{field_text, unit_line}
use Rattle.or_replay.proofs.Grouped.{then_two}
use Rattle.or_replay.proofs.reporting.append_units.Goals as goal

pub returns-clause-text : goal.returns-clause-text
unfolding unit_line
returns-clause-text c =
    let core = c.args.core.now in
    let old = c.args.out.now.items in
    let start : c.append_pair.new.out.items ≡ old ++ (field_text (codes "machi ") core.machi ++ field_text (codes " maclo ") core.maclo) = search rules in
    let more : c.append_pair-2.new.out.items ≡ c.append_pair.new.out.items ++ (field_text (codes " ttmr ") core.ttmr ++ field_text (codes " ttcr ") core.ttcr) = search rules in
    let last : c.append_pair-3.new.out.items ≡ c.append_pair-2.new.out.items ++ (field_text (codes " picmr ") core.picmr ++ field_text (codes " picsr ") core.picsr) = search rules in
    let front : c.append_pair-3.new.out.items ≡ old ++ (field_text (codes "machi ") core.machi ++ field_text (codes " maclo ") core.maclo ++ field_text (codes " ttmr ") core.ttmr
    ++ field_text (codes " ttcr ") core.ttcr ++ field_text (codes " picmr ") core.picmr ++ field_text (codes " picsr ") core.picsr) = then_two old _ _ _ _ _ (then_two old _ _ _ _ _ start more) last in
    grind (arith, common_steps, front)
