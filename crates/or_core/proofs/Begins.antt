use Rattle.std.proofs.Common.{◌≡◌, ℕ, zero, suc, ◌-◌, ◌<◌, true, false, cond, refl, ap, arith, sub-one, ◌∙◌}
use Rattle.std.specs.Prelude.{is_none, None}
use Rattle.or_model.specs.Core.{Core}
use Rattle.or_model.specs.Step.{is_private, private_step}
use Rattle.or_model.specs.Turn.{Begun, begun_within, steps_alone}

-- one more step of a turn, or none
begun_within-next : (left : ℕ) (core : Core) → 0 < left → begun_within left core ≡ cond (steps_alone core) (begun_within (left - 1) (private_step core)) (record { core = core; follows = is_none core.stop })
unfolding begun_within
begun_within-next zero core h = absurd (omega arith)
begun_within-next (suc left) core h = rw sub-one

-- a core that makes its next step alone makes it
pub begun_within-more : (left : ℕ) (core : Core) → 0 < left → core.stop ≡ None → is_private core ≡ true → begun_within left core ≡ begun_within (left - 1) (private_step core)
unfolding steps_alone
begun_within-more left core h running alone =
    let goes : steps_alone core ≡ true = let quiet : is_none core.stop ≡ true = ap is_none running in rw quiet alone in
    begun_within-next left core h ∙ ap (λ b. cond b (begun_within (left - 1) (private_step core)) (record { core = core; follows = is_none core.stop })) goes

-- a core that needs the bus for it has begun
pub begun_within-waits : (left : ℕ) (core : Core) → 0 < left → core.stop ≡ None → is_private core ≡ false → begun_within left core ≡ record { core = core; follows = true }
unfolding steps_alone
begun_within-waits left core h running alone =
    let goes : steps_alone core ≡ false = let quiet : is_none core.stop ≡ true = ap is_none running in rw quiet alone in
    begun_within-next left core h ∙ ap (λ b. cond b (begun_within (left - 1) (private_step core)) (record { core = core; follows = is_none core.stop })) goes
    ∙ ap (λ s. let begun : Begun = record { core = core; follows = is_none s } in begun) running

-- and so has a core that has stopped
pub begun_within-stops : (left : ℕ) (core : Core) → 0 < left → is_none core.stop ≡ false → begun_within left core ≡ record { core = core; follows = false }
unfolding steps_alone
begun_within-stops left core h stopped =
    let goes : steps_alone core ≡ false = rw stopped in
    begun_within-next left core h ∙ ap (λ b. cond b (begun_within (left - 1) (private_step core)) (record { core = core; follows = is_none core.stop })) goes
    ∙ ap (λ b. let begun : Begun = record { core = core; follows = b } in begun) stopped

-- with no steps left the first half is over
pub begun_within-end : (left : ℕ) (core : Core) → left ≡ 0 → begun_within left core ≡ record { core = core; follows = false }
unfolding begun_within
begun_within-end zero core h = refl
begun_within-end (suc left) core h = absurd (omega arith)

pub ruleset begin_steps = (begun_within-more, begun_within-waits, begun_within-stops, begun_within-end)
