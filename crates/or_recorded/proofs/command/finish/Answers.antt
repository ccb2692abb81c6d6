use Rattle.or_command.specs.Ends.{end_of}
use Rattle.or_command.specs.Loads.{bytes_of}
use Rattle.or_recorded.specs.Files.{names_of, bytes_of_files}
use Rattle.or_command.proofs.FinishingLemmas.{written_passed}
use Rattle.or_recorded.proofs.Commands.{refused_ends}
use Rattle.or_recorded.proofs.Short.{command_short}
use Rattle.or_recorded.proofs.command.finish.Goals as goal

pub returns-in-Err-clause-outcome : goal.returns-in-Err-clause-outcome
returns-in-Err-clause-outcome g c =
    let command = g.C.RecordedCommand in
    let told = c.named.ensures in
    refused_ends (command.fault c.args.command.now) (command.Makes c.args.command.now) (names_of c.args.names.now) (bytes_of c.args.read.now)
    (bytes_of_files c.named.result) c.in-Err.fault (end_of c.refuse_fault.result) (g.H.Host.state c.args.host.now)
    (λ i. record { image = told.image i; input = told.input i; recording = told.recording i; script = told.script i }) c.in-Err.ensures c.refuse_fault.ensures

pub returns-in-Err-clause-passed : goal.returns-in-Err-clause-passed
returns-in-Err-clause-passed g c =
    let command = g.C.RecordedCommand in
    let told = c.named.ensures in
    command_short (command.fault c.args.command.now) (command.Makes c.args.command.now) (names_of c.args.names.now) (bytes_of c.args.read.now)
    (bytes_of_files c.named.result) c.in-Err.fault (end_of c.refuse_fault.result)
    (λ i. record { image = told.image i; input = told.input i; recording = told.recording i; script = told.script i }) c.in-Err.ensures c.refuse_fault.ensures

pub returns-in-Ok-clause-passed : goal.returns-in-Ok-clause-passed
returns-in-Ok-clause-passed g c = written_passed _ _ (end_of c.write.result) _ _ _ c.write.ensures.outcome
