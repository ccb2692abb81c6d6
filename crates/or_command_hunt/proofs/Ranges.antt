-- Ranges of seeds, one behind another.
use Rattle.std.proofs.Common.{◌≡◌, ℕ, zero, suc, ◌+◌, ◌^◌, ◌<◌, ◌≤◌, min, false, ap, add-one, arith}
use Rattle.std.proofs.Math.Nat.{pow-suc}
use mathlib.Core.Logic.{dite}
use native.Mathlib.Decide.{dec_lt}
use Rattle.or_model.specs.Turn.{Board}
use Rattle.or_hunt.specs.Failing.{seed_fails, NoneFails, IsLeastFailing}
use Rattle.or_command_hunt.specs.Tries.{tried}

-- none of the first fails, and none behind them
pub none_behind : (start : Board) (from first next all more : ℕ) → next ≡ from + first → first + more ≡ all → NoneFails start from first → NoneFails start next more
    → NoneFails start from all
none_behind start from first next all more e sum none later seed begins ends = dite (dec_lt seed next)
    (λ before. none seed begins (omega (arith, before, e)))
    (λ behind. later seed (omega (arith, behind)) (omega (arith, ends, e, sum)))

-- none of the first fails, and this is the least behind them
pub least_behind : (start : Board) (from first next all more seed : ℕ) → next ≡ from + first → first + more ≤ all → NoneFails start from first
    → IsLeastFailing start next more seed → IsLeastFailing start from all seed
least_behind start from first next all more seed e sum none is = record {
  begins = omega (arith, e, is.begins);
  ends = omega (arith, is.ends, e, sum);
  fails = is.fails;
  least = λ earlier begins ends. dite (dec_lt earlier next)
      (λ before. none earlier begins (omega (arith, before, e)))
      (λ behind. is.least earlier (omega (arith, behind)) ends);
}

-- how many were tried when a line more is said
pub tried_more : (tries lines : ℕ) → tried tries (lines + 1) ≡ min (2 ^ lines) tries
tried_more tries lines = ap (tried tries) (add-one lines)

power_more : (lines : ℕ) → 2 ^ lines ≤ 2 ^ suc lines
power_more lines = omega (arith, pow-suc 2 lines)

pub tried_small : (tries lines : ℕ) → tried tries lines ≤ min (2 ^ lines) tries
tried_small tries zero = omega arith
tried_small tries (suc lines) = omega (arith, power_more lines)

pub tried_all : (tries : ℕ) → tries ≤ 1000000 → tried tries 21 ≡ tries
tried_all tries few = omega (arith, few)

pub ruleset ranges = (tried_more, tried_small, tried_all)
