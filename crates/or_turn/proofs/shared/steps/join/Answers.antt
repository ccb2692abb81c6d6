use Rattle.std.proofs.Common.{rules, ap}
use Rattle.or_turn.specs.Rule.{settings_of}
use Rattle.or_turn.specs.Told.{SeatState, halves}
use Rattle.or_turn.proofs.Joining.{joins, confirms}
use Rattle.or_turn.proofs.shared.steps.join.Goals as goal

pub join_seat-requires : goal.join_seat-requires
join_seat-requires c = let r = c.requires.idle in (search rules, search rules, search rules, search rules, joins (settings_of c.args.top.now.key) _ _ _ _ r.0 r.1)

pub load-requires : goal.load-requires
load-requires c = (search rules, search rules, confirms (settings_of c.args.top.now.key) _ _ c.join_seat.new.seat.me (halves c.args.seat.now.me.0 c.args.other.me.0) (ap (λ (m : SeatState). m.0.stage) c.join_seat.ensures.2))
