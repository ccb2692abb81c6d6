use Rattle.std.proofs.Common.{ℕ, List, subst, false}
use Rattle.or_words.specs.Settings.{ram_bytes}
use Rattle.or_command_image.specs.Loaded.{image_in}
use Rattle.or_command_line.specs.Names.{run_names}
use Rattle.or_command.specs.Loads.{bytes_of}
use Rattle.or_command.specs.Ends.{end_of}
use Rattle.or_command.proofs.FinishingLemmas.{written_passed, stops_passed}
use Rattle.or_replay.specs.Opening.{FailsToOpen}
use Rattle.or_command_run.specs.Run.{run_check, RunWrites}
use Rattle.or_command_run.proofs.Stopping.{stops_end, stops_in_check}
use Rattle.or_command_run.proofs.running.finish.Goals as goal

pub returns-in-Err-clause-outcome : goal.returns-in-Err-clause-outcome
returns-in-Err-clause-outcome g c =
    let names = run_names c.args.words.now in
    let config = c.args.words.now.options.config in
    let files = bytes_of c.args.files.now in
    stops_end (run_check names config) (RunWrites names config false c.new.result.items) files (end_of c.refused.result) (g.H.Host.state c.args.host.now)
    (stops_in_check (run_check names config files) (end_of c.refused.result) (c.refused.ensures (image_in files) (ram_bytes config)
    (subst (λ (image : List ℕ). FailsToOpen image (ram_bytes config) c.in-Err.fault) c.image_in.ensures c.in-Err.ensures.run)))

pub returns-in-Err-clause-passed : goal.returns-in-Err-clause-passed
returns-in-Err-clause-passed g c =
    let names = run_names c.args.words.now in
    let config = c.args.words.now.options.config in
    let files = bytes_of c.args.files.now in
    stops_passed (run_check names config files) (end_of c.refused.result)
    (c.refused.ensures (image_in files) (ram_bytes config)
    (subst (λ (image : List ℕ). FailsToOpen image (ram_bytes config) c.in-Err.fault) c.image_in.ensures c.in-Err.ensures.run))

pub returns-in-Ok-clause-passed : goal.returns-in-Ok-clause-passed
returns-in-Ok-clause-passed g c =
    written_passed _ _ (end_of c.write-outcome.result) _ _ _ c.write-outcome.ensures.outcome
