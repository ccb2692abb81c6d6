use Rattle.std.proofs.Common.{◌∙◌, sym, ap}
use Rattle.or_script.specs.Command.{break_line}
use Rattle.or_script.proofs.command.break_at.Goals as goal

pub returns-in-None : goal.returns-in-None
returns-in-None c = c.break_of_all.ensures c.args.config.now ∙ ap (λ core. break_line c.args.config.now core c.args.pc) (sym c.in-None.is)
