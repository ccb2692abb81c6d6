-- What is left of the trace of a turn.
use Rattle.std.proofs.Common.{◌≡◌, ℕ, zero, suc, ◌-◌, ◌<◌, true, false, cond, ap, arith, sub-one, ◌∙◌, append_assoc, append-nil}
use Rattle.std.specs.Prelude.{is_none, None, List, [], ◌∷◌, ◌++◌}
use Rattle.or_model.specs.Core.{Core}
use Rattle.or_model.specs.Step.{is_private, private_step}
use Rattle.or_model.specs.Turn.{steps_alone}
use Rattle.or_model.specs.Trace.{trace_within}

trace_within-next : (left : ℕ) (core : Core) → 0 < left → trace_within left core ≡ cond (steps_alone core) (core.pc ∷ trace_within (left - 1) (private_step core)) []
unfolding trace_within
trace_within-next zero core h = absurd (omega arith)
trace_within-next (suc left) core h = rw sub-one

-- a private step puts its pc behind those before it
pub trace_within-more : (left : ℕ) (core : Core) (before : List ℕ) → 0 < left → core.stop ≡ None → is_private core ≡ true → (before ++ core.pc ∷ []) ++ trace_within (left - 1) (private_step core) ≡ before ++ trace_within left core
unfolding steps_alone
trace_within-more left core before h running alone =
    let goes : steps_alone core ≡ true = let quiet : is_none core.stop ≡ true = ap is_none running in rw quiet alone in
    let next : trace_within left core ≡ core.pc ∷ trace_within (left - 1) (private_step core) =
    trace_within-next left core h ∙ ap (λ b. cond b (core.pc ∷ trace_within (left - 1) (private_step core)) []) goes in
    grind (arith, append_assoc, next)

-- a core that needs the bus puts nothing behind them
pub trace_within-waits : (left : ℕ) (core : Core) (before : List ℕ) → 0 < left → core.stop ≡ None → is_private core ≡ false → before ++ trace_within left core ≡ before
unfolding steps_alone
trace_within-waits left core before h running alone =
    let goes : steps_alone core ≡ false = let quiet : is_none core.stop ≡ true = ap is_none running in rw quiet alone in
    let none : trace_within left core ≡ [] = trace_within-next left core h ∙ ap (λ b. cond b (core.pc ∷ trace_within (left - 1) (private_step core)) []) goes in
    rw none (append-nil before)

-- neither does one that has stopped
pub trace_within-stops : (left : ℕ) (core : Core) (before : List ℕ) → 0 < left → is_none core.stop ≡ false → before ++ trace_within left core ≡ before
unfolding steps_alone
trace_within-stops left core before h stopped =
    let goes : steps_alone core ≡ false = rw stopped in
    let none : trace_within left core ≡ [] = trace_within-next left core h ∙ ap (λ b. cond b (core.pc ∷ trace_within (left - 1) (private_step core)) []) goes in
    rw none (append-nil before)

-- nor one at the end of the turn
pub trace_within-end : (left : ℕ) (core : Core) (before : List ℕ) → left ≡ 0 → before ++ trace_within left core ≡ before
unfolding trace_within
trace_within-end zero core before h = append-nil before
trace_within-end (suc left) core before h = absurd (omega arith)

pub ruleset trace_steps = (trace_within-more, trace_within-waits, trace_within-stops, trace_within-end)
