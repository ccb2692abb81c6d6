use Rattle.std.proofs.Common.{rules}
use Rattle.or_turn.specs.Rule.{settings_of}
use Rattle.or_turn.proofs.Opening.{splits}
use Rattle.or_turn.proofs.shared.steps.split.Goals as goal

pub split_seat-requires : goal.split_seat-requires
split_seat-requires c = let r = c.requires.ready in (search rules, search rules, splits (settings_of c.args.top.now.key) _ _ r.0 r.2 r.1)
