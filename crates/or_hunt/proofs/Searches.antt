-- One seed more.
use Rattle.std.proofs.Common.{◌≡◌, ℕ, ◌+◌, ◌≤◌, ap, sym, ◌∙◌, false, inl, inr, arith}
use Rattle.std.specs.Prelude.{List}
use Rattle.std.proofs.Math.Nat.{eq-or-lt_of_le}
use Rattle.or_model.specs.Core.{Core}
use Rattle.or_model.specs.Turn.{Board, replay}
use Rattle.or_bus.specs.State.{BusState}
use Rattle.or_replay.specs.Failing.{some_core_fails}
use Rattle.or_hunt.specs.declared.made.Made.{Made}
use Rattle.or_hunt.specs.Failing.{fails_after, seed_fails, NoneFails}
use Rattle.or_hunt.specs.Making.{IsDrawn}

-- a seed fails where a core fails at the end of its schedule
pub fails_so : (start : Board) (seed : ℕ) (made : Made) (cores : List Core) (bus : BusState) → IsDrawn start seed made cores bus
    → seed_fails start seed ≡ some_core_fails cores
fails_so start seed made cores bus is =
    ap (λ turns. fails_after (replay start turns)) (sym is.whole) ∙ ap fails_after is.is_made.reached ∙ sym (ap some_core_fails is.is_made.is.same_cores)

pub none_first : (start : Board) (from : ℕ) → NoneFails start from 0
none_first start from seed begins ends = absurd (omega (arith, begins, ends))

pub none_more : (start : Board) (from many : ℕ) → NoneFails start from many → seed_fails start (from + many) ≡ false → NoneFails start from (many + 1)
none_more start from many none last seed begins ends = let least : seed ≤ from + many = omega (arith, ends) in elim (eq-or-lt_of_le least) [
  | inl same ↦ ap (seed_fails start) same ∙ last
  | inr before ↦ none seed begins before
]
