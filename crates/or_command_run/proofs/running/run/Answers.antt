use Rattle.std.proofs.Common.{◌≡◌, ap, subst, ℕ, List, None}
use Rattle.std.specs.Prelude.{Vec}
use Rattle.std.specs.declared.alloc.Global.{Global}
use Rattle.or_command_line.specs.Names.{run_names}
use Rattle.or_command.specs.Loads.{bytes_of}
use Rattle.or_command.specs.Ends.{end_of}
use Rattle.or_command.specs.Finishing.{IfNoMemory}
use Rattle.or_command.specs.Outcomes.{Computes}
use Rattle.or_command.specs.Answered.{FinishEnds}
use Rattle.or_command.proofs.FinishingLemmas.{loaded_goes_behind}
use Rattle.or_command_run.specs.Run.{run_loads, run_check, RunWrites}
use Rattle.or_command_run.proofs.Runs.{apart_of}
use Rattle.or_command_run.proofs.running.run.Goals as goal

pub returns-in-Ok-clause-outcome : goal.returns-in-Ok-clause-outcome
returns-in-Ok-clause-outcome g c =
    let names = run_names c.args.words.now in
    let config = c.args.words.now.options.config in
    loaded_goes_behind (run_loads names) (Computes (run_check names config)) (RunWrites names config c.finish.result.failed c.finish.result.lines.items) (apart_of names config c.finish.result.failed c.finish.result.lines.items c.requires.names)
    (λ files. run_check names config files ≡ None) (bytes_of c.new_in-files.result.items) (bytes_of c.load_image.new.into.items) (end_of c.finish.result.outcome)
    (g.H.Host.state c.args.host.now) (g.H.Host.state c.load_image.new.host) (g.H.Host.state c.finish.new.host)
    (ap bytes_of c.new_in-files.ensures) c.in-Ok.ensures.files
    (subst (λ (files : List (Vec ℕ Global)). FinishEnds (run_check names config) (RunWrites names config c.finish.result.failed c.finish.result.lines.items) (bytes_of files) (end_of c.finish.result.outcome)
    (g.H.Host.state c.load_image.new.host) (g.H.Host.state c.finish.new.host)) c.as_slice.ensures.value c.finish.ensures.outcome)
    (subst (λ (files : List (Vec ℕ Global)). IfNoMemory (end_of c.finish.result.outcome) (run_check names config (bytes_of files) ≡ None)) c.as_slice.ensures.value c.finish.ensures.passed)
