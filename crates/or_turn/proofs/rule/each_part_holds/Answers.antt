use Rattle.or_turn.specs.Rule.{settings_of}
use Rattle.or_turn.proofs.Moments.{parts}
use Rattle.or_turn.proofs.rule.each_part_holds.Goals as goal

pub returns : goal.returns
returns c = λ k s h. parts (settings_of k) s h
