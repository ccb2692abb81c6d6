use Rattle.std.proofs.Common.{◌∙◌, ap}
use Rattle.std.specs.Prelude.{Option, option_map}
use Rattle.or_replay.specs.declared.watching.Placed.{Placed}
use Rattle.or_replay.proofs.LastPlaces.{access_alone}
use Rattle.or_replay.proofs.board.Board.observe.Goals as goal

pub returns-in-Ok-clause-access : goal.returns-in-Ok-clause-access
returns-in-Ok-clause-access c = λ board is.
    c.access_of.ensures ∙ ap (λ (o : Option Placed). option_map (λ (at : Placed). at.access) o) (c.in-Ok.ensures.access board is) ∙ access_alone board c.args.core
