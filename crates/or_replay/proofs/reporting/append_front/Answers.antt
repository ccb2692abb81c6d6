use Rattle.std.proofs.Common.{◌≡◌, ◌++◌, length, rules, codes}
use Rattle.std.proofs.lemmas.Result.{on_ok_weaker}
use Rattle.or_text.proofs.Kept.{kept_on, kept_behind}
use Rattle.or_parts.specs.Devices.{console_of}
use Rattle.or_replay.specs.Report.{counts_line}
use Rattle.or_replay.proofs.Grouped.{then_one}
use Rattle.or_replay.proofs.reporting.append_front.Goals as goal

pub returns-clause-text : goal.returns-clause-text
returns-clause-text c = on_ok_weaker c.append_cores.result (λ last world is.
    let console = c.console.ensures.told world is in
    let old = c.args.out.now.items in
    let head : c.extend_from_slice.new.self.items ≡ old ++ codes "orreport 1\n" = c.in_ok-extend_from_slice.ensures.items in
    let counts : c.append_counts.new.out.items ≡ c.extend_from_slice.new.self.items ++ counts_line (length c.args.cores.now) c.args.turns (length (console_of world.devices)) = search rules in
    then_one old _ _ _ _ (then_one old _ _ _ _ head counts) (last world is)) c.append_cores.ensures.text

pub returns-clause-kept : goal.returns-clause-kept
returns-clause-kept c =
    kept_behind c.args.out.now.items (codes "orreport 1\n") c.extend_from_slice.new.self.items c.append_cores.new.out.items c.in_ok-extend_from_slice.ensures.items
    (kept_on c.extend_from_slice.new.self.items c.append_counts.new.out.items c.append_cores.new.out.items c.append_counts.ensures.kept c.append_cores.ensures.kept)
