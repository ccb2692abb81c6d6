-- A turn of one core lessens the steps that are left.
use Rattle.std.proofs.Common.{◌≡◌, ℕ, ◌+◌, ◌-◌, ◌<◌, ◌≤◌, zero, suc, List, [], ◌∷◌, Some, None, length, refl, ap, sym, ◌∙◌, arith, cond, subst, ◌⊎◌, inl, inr}
use Rattle.std.specs.Prelude.{Option, slice_get, slice_set, slice_index_or, is_none}
use Rattle.or_model.specs.Core.{Core}
use Rattle.or_model.specs.declared.Stop.{Stop}
use Rattle.or_model.specs.Turn.{turn}
use Rattle.or_bus.specs.State.{BusState}
use Rattle.or_bus.specs.Represents.{Represents}
use Rattle.or_replay.specs.Board.{steps_left, left_of, IsInOrder, IsCoreTurned, TurnsAt}

length-set : (cores : List Core) (place : ℕ) (new : Core) → length (slice_set cores place new) ≡ length cores
length-set [] place new = refl
length-set (core ∷ cores) zero new = refl
length-set (core ∷ cores) (suc place) new = ap suc (length-set cores place new)

-- one core of fewer steps in the place of another
pub fewer_left : (cores : List Core) (place : ℕ) (old new : Core) → slice_get cores place ≡ Some old → left_of new < left_of old
    → steps_left (slice_set cores place new) < steps_left cores
fewer_left [] place old new at fewer = absurd (let b : ⊥ = cc in b)
fewer_left (core ∷ cores) zero old new at fewer = let same : core ≡ old = cc in omega (arith, ap left_of same)
fewer_left (core ∷ cores) (suc place) old new at fewer = omega (arith, fewer_left cores place old new at fewer)

-- a core that may make a step counts among those that are left
pub some_left : (cores : List Core) (place : ℕ) (core : Core) → slice_get cores place ≡ Some core → left_of core ≤ steps_left cores
some_left [] place core at = absurd (let b : ⊥ = cc in b)
some_left (first ∷ cores) zero core at = let same : first ≡ core = cc in omega (arith, ap left_of same)
some_left (first ∷ cores) (suc place) core at = omega (arith, some_left cores place core at)

-- a core that runs finds room on the console
pub has_room : (cores : List Core) (place spare : ℕ) (core : Core) → slice_get cores place ≡ Some core → core.stop ≡ None → core.steps < core.budget
    → steps_left cores ≤ spare → 0 < spare
has_room cores place spare core at runs few room =
    let left : left_of core ≡ core.budget - core.steps = ap (λ (stop : Option Stop). cond (is_none stop) (core.budget - core.steps) 0) runs in
    omega (arith, left, some_left cores place core at, few)

set_or_old : (cores : List Core) (place c : ℕ) (new core : Core) → slice_get (slice_set cores place new) c ≡ Some core
    → ((c ≡ place) × (core ≡ new)) ⊎ (slice_get cores c ≡ Some core)
set_or_old [] place c new core at = inr at
set_or_old (first ∷ cores) zero zero new core at = inl (refl, cc)
set_or_old (first ∷ cores) zero (suc c) new core at = inr at
set_or_old (first ∷ cores) (suc place) zero new core at = inr at
set_or_old (first ∷ cores) (suc place) (suc c) new core at = elim (set_or_old cores place c new core at) [ inl w ↦ inl (ap suc w.0, w.1) | inr w ↦ inr w ]

-- the turn of the core at a place is the turn of every world's
pub turned_at : (cores : List Core) (place : ℕ) (before after : Core) (bus new_bus : BusState) → IsCoreTurned before bus after new_bus
    → slice_get cores place ≡ Some before → TurnsAt cores bus place (slice_set cores place after) new_bus
turned_at cores place before after bus new_bus is at core world again represents =
    let same : before ≡ core = cc in
    let made = subst (λ (k : Core). (after ≡ (turn k world).core) × Represents new_bus (turn k world).world) same (is.state world represents) in
    (ap (slice_set cores place) made.0, made.1)

-- and the cores stay in order, with room for their steps
pub order_kept : (cores : List Core) (place : ℕ) (before after : Core) (bus new_bus : BusState) → after.number ≡ before.number → left_of after < left_of before → new_bus.cores ≡ bus.cores
    → bus.spare ≤ new_bus.spare + 1 → slice_get cores place ≡ Some before → IsInOrder cores bus → IsInOrder (slice_set cores place after) new_bus
order_kept cores place before after bus new_bus number left cores_are room at order =
    let fewer = fewer_left cores place before after at left in
    record {
      many = length-set cores place after ∙ order.many ∙ sym cores_are;
      numbered = λ c core found. elim (set_or_old cores place c after core found) [
        | inl w ↦ ap (λ (k : Core). k.number) w.1 ∙ number ∙ order.numbered place before at ∙ sym w.0
        | inr w ↦ order.numbered c core w
      ];
      room = omega (arith, fewer, order.room, room);
    }

pub order_stays : (cores : List Core) (place : ℕ) (before after : Core) (bus new_bus : BusState) → IsCoreTurned before bus after new_bus
    → slice_get cores place ≡ Some before → IsInOrder cores bus → IsInOrder (slice_set cores place after) new_bus
order_stays cores place before after bus new_bus is at order = order_kept cores place before after bus new_bus is.number is.left is.cores is.room at order

pub steps_lessen : (cores : List Core) (place : ℕ) (before after : Core) (bus new_bus : BusState) → IsCoreTurned before bus after new_bus
    → slice_get cores place ≡ Some before → steps_left (slice_set cores place after) < steps_left cores
steps_lessen cores place before after bus new_bus is at = fewer_left cores place before after at is.left

pub ruleset turning = (has_room, turned_at, order_stays, steps_lessen)

pub get_is : (cores : List Core) (c : ℕ) (default : Core) → c < length cores → slice_get cores c ≡ Some (slice_index_or cores c default)
get_is [] c default inside = absurd (omega arith)
get_is (core ∷ cores) zero default inside = refl
get_is (core ∷ cores) (suc c) default inside = get_is cores c default (omega arith)

pub one_core : (cores : List Core) (place : ℕ) (core other : Core) → slice_get cores place ≡ Some core → slice_get cores place ≡ Some other → core ≡ other
one_core cores place core other at found = let e : Some core ≡ Some other = sym at ∙ found in cc

pub get_set : (cores : List Core) (place : ℕ) (old new : Core) → slice_get cores place ≡ Some old → slice_get (slice_set cores place new) place ≡ Some new
get_set [] place old new at = absurd (let b : ⊥ = cc in b)
get_set (core ∷ cores) zero old new at = refl
get_set (core ∷ cores) (suc place) old new at = get_set cores place old new at

-- the steps of the core at a place rise by those of its new core
pub steps_at : (cores : List Core) (place : ℕ) (old new before after : Core) (made : ℕ) → slice_get cores place ≡ Some old → slice_get cores place ≡ Some before
    → slice_get (slice_set cores place new) place ≡ Some after → new.steps ≡ old.steps + made → after.steps ≡ before.steps + made
steps_at cores place old new before after made at found new_found steps =
    let same : old ≡ before = one_core cores place old before at found in
    let new_same : new ≡ after = one_core (slice_set cores place new) place new after (get_set cores place old new at) new_found in
    ap (λ (k : Core). k.steps) (sym new_same) ∙ steps ∙ ap (λ (k : Core). k.steps + made) same
