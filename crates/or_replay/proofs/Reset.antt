-- The cores at reset: how many, their numbers, and the steps that they may make.
use Rattle.std.proofs.Common.{◌≡◌, ℕ, ◌+◌, ◌*◌, ◌-◌, zero, suc, List, [], ◌∷◌, ◌++◌, Some, length, ◌⊎◌, inl, inr, refl, ap, sym, ◌∙◌, arith, length-append, add-one, cond, subst}
use Rattle.std.specs.Prelude.{slice_get, is_none}
use Rattle.std.proofs.Math.Nat.{suc-mul}
use Rattle.or_words.specs.declared.Config.{Config}
use Rattle.or_model.specs.Core.{Core, reset_core}
use Rattle.or_model.specs.Turn.{reset_cores}
use Rattle.or_bus.specs.State.{BusState}
use Rattle.or_replay.specs.Board.{steps_left, IsInOrder}

pub reset_cores-more : (config : Config) (count : ℕ) → reset_cores config (count + 1) ≡ reset_cores config count ++ reset_core config count ∷ []
unfolding reset_cores
reset_cores-more config count = rw add-one

pub reset_cores-none : (config : Config) (count : ℕ) → count ≡ 0 → reset_cores config count ≡ []
unfolding reset_cores
reset_cores-none config zero e = refl
reset_cores-none config (suc count) e = absurd (omega arith)

pub length-reset_cores : (config : Config) (count : ℕ) → length (reset_cores config count) ≡ count
unfolding reset_cores
length-reset_cores config zero = refl
length-reset_cores config (suc count) = omega (arith, length-append (reset_cores config count) (reset_core config count ∷ []), length-reset_cores config count)

-- what stands last, or before
last_or_before : (xs : List Core) (x y : Core) (c : ℕ) → slice_get (xs ++ x ∷ []) c ≡ Some y → ((c ≡ length xs) × (x ≡ y)) ⊎ (slice_get xs c ≡ Some y)
last_or_before [] x y zero e = inl (refl, cc)
last_or_before [] x y (suc c) e = absurd (let b : ⊥ = cc in b)
last_or_before (z ∷ xs) x y zero e = inr e
last_or_before (z ∷ xs) x y (suc c) e = elim (last_or_before xs x y c e) [ inl w ↦ inl (ap suc w.0, w.1) | inr w ↦ inr w ]

-- core c of the reset cores has number c
pub numbered-reset_cores : (config : Config) (count c : ℕ) (core : Core) → slice_get (reset_cores config count) c ≡ Some core → core.number ≡ c
unfolding reset_cores reset_core
numbered-reset_cores config zero c core e = absurd (let b : ⊥ = cc in b)
numbered-reset_cores config (suc count) c core e =
    elim (last_or_before (reset_cores config count) (reset_core config count) core c e) [
      | inl w ↦ ap (λ (k : Core). k.number) (sym w.1) ∙ sym (w.0 ∙ length-reset_cores config count)
      | inr w ↦ numbered-reset_cores config count c core w
    ]

left_behind : (xs : List Core) (x : Core) → steps_left (xs ++ x ∷ []) ≡ steps_left xs + (cond (is_none x.stop) (x.budget - x.steps) 0)
left_behind [] x = omega arith
left_behind (y ∷ xs) x = omega (arith, left_behind xs x)

-- together they may make each one's budget of steps
pub left-reset_cores : (config : Config) (count : ℕ) → steps_left (reset_cores config count) ≡ count * config.budget
unfolding reset_cores reset_core
left-reset_cores config zero = omega arith
left-reset_cores config (suc count) =
    let last = left_behind (reset_cores config count) (reset_core config count) in
    omega (arith, last, left-reset_cores config count, suc-mul count config.budget)

-- the cores at reset are in order on a bus with room for all their steps
pub start_order : (config : Config) (cores : List Core) (bus : BusState) → cores ≡ reset_cores config config.cores → bus.cores ≡ config.cores
    → bus.spare ≡ config.cores * config.budget → IsInOrder cores bus
start_order config cores bus is many spare =
    let left = left-reset_cores config config.cores in
    subst (λ (l : List Core). IsInOrder l bus) (sym is) (record {
      many = length-reset_cores config config.cores ∙ sym many;
      numbered = numbered-reset_cores config config.cores;
      room = omega (arith, left, spare);
    })

pub ruleset reset = (reset_cores-more, reset_cores-none, length-reset_cores, numbered-reset_cores, left-reset_cores)
