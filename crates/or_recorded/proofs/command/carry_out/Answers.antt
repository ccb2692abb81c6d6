use Rattle.std.proofs.Common.{ap, subst, ℕ, List}
use Rattle.std.specs.Prelude.{Vec}
use Rattle.std.specs.declared.alloc.Global.{Global}
use Rattle.or_command.specs.Ends.{end_of}
use Rattle.or_command.specs.Loads.{bytes_of}
use Rattle.or_command.specs.Finishing.{EndsAfterLoad, IfNoMemory}
use Rattle.or_command.proofs.FinishingLemmas.{loaded_goes_behind}
use Rattle.or_recorded.specs.Files.{names_of, loads}
use Rattle.or_recorded.specs.Command.{Verdict, Writes, FilesRunShort}
use Rattle.or_recorded.proofs.Commands.{apart_of}
use Rattle.or_recorded.proofs.command.carry_out.Goals as goal

pub returns-in-Ok-clause-outcome : goal.returns-in-Ok-clause-outcome
returns-in-Ok-clause-outcome g c =
    let fault = g.C.RecordedCommand.fault c.args.command.now in
    let makes = g.C.RecordedCommand.Makes c.args.command.now in
    let names = names_of c.args.names.now in
    loaded_goes_behind (loads names) (Verdict fault makes names) (Writes fault makes names) (apart_of fault makes names c.requires.names)
    (FilesRunShort names) (bytes_of c.new_in-read.result.items) (bytes_of c.load.new.into.items) (end_of c.finish.result)
    (g.H.Host.state c.args.host.now) (g.H.Host.state c.load.new.host) (g.H.Host.state c.finish.new.host)
    (ap bytes_of c.new_in-read.ensures) c.in-Ok.ensures.files
    (subst (λ (files : List (Vec ℕ Global)). EndsAfterLoad (Verdict fault makes names) (Writes fault makes names) (bytes_of files) (end_of c.finish.result)
    (g.H.Host.state c.load.new.host) (g.H.Host.state c.finish.new.host)) c.as_slice.ensures.value c.finish.ensures.outcome)
    (subst (λ (files : List (Vec ℕ Global)). IfNoMemory (end_of c.finish.result) (FilesRunShort names (bytes_of files))) c.as_slice.ensures.value c.finish.ensures.passed)
