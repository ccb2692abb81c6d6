use Rattle.or_command.specs.Writes.{files_of}
use Rattle.or_command.proofs.WritesLemmas.{then_console, console_stopped}
use Rattle.or_command.proofs.writing.write_outputs.Goals as goal

pub returns-in-Ok-out-clause-outcome : goal.returns-in-Ok-out-clause-outcome
returns-in-Ok-out-clause-outcome g c =
    then_console (files_of c.args.files.now) c.args.console.now (g.H.Host.state c.args.host.now) (g.H.Host.state c.write_files.new.host) (g.H.Host.state c.out.new.self)
    c.in-Ok.ensures.files c.out.ensures.names c.in-Ok-out.ensures.written (record { faults = c.in-Ok-out.ensures.counts.faults; blame = c.in-Ok-out.ensures.counts.blame })

pub returns-in-Err-out-clause-outcome : goal.returns-in-Err-out-clause-outcome
returns-in-Err-out-clause-outcome g c =
    console_stopped (files_of c.args.files.now) c.args.console.now (g.H.Host.state c.args.host.now) (g.H.Host.state c.write_files.new.host) (g.H.Host.state c.out.new.self)
    c.in-Ok.ensures.files c.out.ensures.names c.in-Err-out.ensures.written (record { rose = c.in-Err-out.ensures.counts.rose; blame = c.in-Err-out.ensures.counts.blame })
