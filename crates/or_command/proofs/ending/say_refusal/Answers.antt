use Rattle.std.proofs.Common.{sym, ap}
use Rattle.or_command.specs.declared.refusal.Refusal.{Refusal}
use Rattle.or_command.specs.Lines.{image_line, symbols_line}
use Rattle.or_command.specs.Ends.{failed_check}
use Rattle.or_command.proofs.SaysLemmas.{said_as}
use Rattle.or_command.proofs.ending.say_refusal.Goals as goal

pub returns-in-Image : goal.returns-in-Image
returns-in-Image g c =
    said_as _ (image_line c.in-Image.name.now c.in-Image.fault c.in-Image.place) _ (g.H.Host.state c.args.host.now) _
    (ap (λ (r : Refusal). (failed_check r).line) (sym c.in-Image.is)) c.say_fault.ensures

pub returns-in-Symbols : goal.returns-in-Symbols
returns-in-Symbols g c =
    said_as _ (symbols_line c.in-Symbols.name.now c.in-Symbols.fault c.in-Symbols.place) _ (g.H.Host.state c.args.host.now) _
    (ap (λ (r : Refusal). (failed_check r).line) (sym c.in-Symbols.is)) c.say_fault-in-Symbols.ensures
