-- How eight words keep the status words of the cores that a board has.
use Rattle.std.specs.Prelude.{◌≡◌, ℕ, ◌-◌, ◌≤◌, List, length, drop, replicate}

-- eight words, of which those that no core has are 0
pub record IsPadded (words : List ℕ) (cores : ℕ) : Type 0 where
  pub few : cores ≤ 8
  pub eight : length words ≡ 8
  pub rest : drop cores words ≡ replicate (8 - cores) 0
