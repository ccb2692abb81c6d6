use Rattle.std.proofs.Common.{rules}
use Rattle.or_turn.specs.Rule.{settings_of}
use Rattle.or_turn.proofs.Waiting.{looks}
use Rattle.or_turn.proofs.shared.steps.look.Goals as goal

pub load-requires : goal.load-requires
load-requires c = let w = c.requires.waits in (search rules, search rules, looks (settings_of c.args.top.now.key) _ _ c.args.seat.now.me c.args.ticket w.0 w.1)
