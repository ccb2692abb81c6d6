use Rattle.std.proofs.Common.{◌≡◌, ap, subst, ℕ, List}
use Rattle.std.specs.Prelude.{Vec}
use Rattle.std.specs.declared.alloc.Global.{Global}
use Rattle.or_command.specs.Ends.{end_of}
use Rattle.or_command.specs.Loads.{bytes_of}
use Rattle.or_command_line.specs.Names.{recorded_names}
use Rattle.or_recorded.specs.Files.{run_alone, files_in, bytes_of_files}
use Rattle.or_recorded.proofs.TraceEnding.{trace_goes_on}
use Rattle.or_recorded.proofs.traced_run.trace.Goals as goal

pub returns-in-Ok-clause-outcome : goal.returns-in-Ok-clause-outcome
returns-in-Ok-clause-outcome g c =
    let told = c.named.ensures in
    trace_goes_on c.args.options.now (recorded_names c.args.files.now) (bytes_of c.new_in-read.result.items) (bytes_of c.load.new.into.items)
    (bytes_of_files c.named.result) (end_of c.finish.result) (g.H.Host.state c.args.host.now) (g.H.Host.state c.load.new.host) (g.H.Host.state c.finish.new.host)
    (ap bytes_of c.new_in-read.ensures) c.in-Ok.ensures.files
    (subst (λ (files : List (Vec ℕ Global)). bytes_of_files c.named.result ≡ files_in (run_alone (recorded_names c.args.files.now)) (bytes_of files)) c.as_slice.ensures.value
    (λ i. record { image = told.image i; input = told.input i; recording = told.recording i; script = told.script i }))
    c.finish.ensures.outcome
