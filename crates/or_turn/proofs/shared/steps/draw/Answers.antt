use Rattle.std.proofs.Common.{rules, refl}
use Rattle.or_turn.specs.Rule.{settings_of}
use Rattle.or_turn.proofs.Waiting.{draws}
use Rattle.or_turn.proofs.shared.steps.draw.Goals as goal

pub compare_exchange-requires : goal.compare_exchange-requires
compare_exchange-requires c = let r = c.requires.ready in (search rules, search rules, draws (settings_of c.args.top.now.key) _ _ c.args.seat.now.me c.args.ticket _ r.0 refl r.1 r.2 r.3)
