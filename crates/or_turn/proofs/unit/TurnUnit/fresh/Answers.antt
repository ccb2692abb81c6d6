use Rattle.std.proofs.Common.{◌≡◌, ℕ, Bool, List, [], ◌∷◌, ◌++◌, map, None, Some, sym, ap, ◌∙◌}
use Rattle.or_turn.specs.declared.view.Settings.{Settings}
use Rattle.or_model.specs.Core.{Core}
use Rattle.or_model.specs.Turn.{Board}
use Rattle.or_turn.specs.Schedules.{core_at}
use Rattle.or_turn.proofs.Replays.{board_none}
use Rattle.or_turn.specs.Told.{SeatState}
use Rattle.or_turn.specs.SeatViews.{core_of}
use Rattle.or_turn.proofs.unit.TurnUnit.fresh.Goals as goal

none_is : (f : Bool) → None ≡ Some f → ⊥
none_is f e = cc

pub invariant_of-result : goal.invariant_of-result
unfolding core_of
invariant_of-result c = let st : Settings = c.args.seat.me.0.settings in let n : ℕ = c.requires.0 in let seat = c.requires.1 in record {
  bare = ap (λ (m : SeatState). m.1) seat;
  idle = ap (λ (m : SeatState). m.0.stage) seat;
  shown = c.push.ensures.items ∙ (ap (λ (xs : List Core). xs ++ c.args.core ∷ []) c.new-cores.ensures ∙ (ap (λ (k : Core). k ∷ []) (c.requires.2 ∙ sym (ap (λ (b : Board). core_at b.cores n) (board_none st)))
      ∙ ap (λ (m : SeatState). map (core_of m.0) m.0.cores) (sym seat)));
  ready = λ f e. absurd (none_is f e);
}
