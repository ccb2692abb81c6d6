use Rattle.std.proofs.Common.{◌≡◌, ◌++◌, rules, codes, decimal}
use Rattle.std.proofs.lemmas.Result.{on_ok_weaker}
use Rattle.or_replay.specs.Report.{stop_text, progress_line}
use Rattle.or_replay.proofs.Grouped.{then_two, then_five}
use Rattle.or_replay.proofs.reporting.append_progress.Goals as goal

pub returns-clause-text : goal.returns-clause-text
unfolding progress_line
returns-clause-text c =
    let core = c.args.core.now in
    let old = c.args.out.now.items in
    let start : c.append_stopped.new.out.items ≡ old ++ (codes "core " ++ decimal core.number ++ codes " " ++ stop_text core.stop) = search rules in
    let more : c.append_number.new.out.items ≡ c.append_stopped.new.out.items ++ (codes " steps " ++ decimal core.steps) = search rules in
    on_ok_weaker c.append_hits.result (λ last. then_five old _ _ _ _ _ _ _ _ (then_two old _ _ _ _ _ start more) last) c.append_hits.ensures.text
