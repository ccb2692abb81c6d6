-- The cores of a board stay in order of number, and the access of a turn is made by the core whose turn it is.
use Rattle.std.proofs.Common.{◌≡◌, ◌∙◌, refl, sym, ap, subst, ℕ, zero, suc, List, [], ◌∷◌, Bool, true, false, cond, Some, None, ◌⊎◌, inl, inr}
use Rattle.std.specs.Prelude.{Option, slice_get, slice_set, option_and_then, option_map, ◌&&◌, is_none}
use Rattle.or_isa.specs.Decode.{decode_of}
use Rattle.or_model.specs.declared.Route.{Route}
use Rattle.or_model.specs.declared.Route.TheVariants.{Refused, At}
use Rattle.or_model.specs.Core.{Core}
use Rattle.or_model.specs.World.{World}
use Rattle.or_model.specs.Bus.{in_ram}
use Rattle.or_model.specs.Step.{private_step, empty_world, due_interrupt}
use Rattle.or_model.specs.Turn.{Board, Begun, steps_alone, begun_within, turn_begun, turn_ended, turn, running, board_turned_by, board_turned}
use Rattle.or_model.proofs.Steps.{step-adds}
use Rattle.or_bus.specs.declared.access.Access.{Access}
use Rattle.or_bus.specs.declared.access.AccessKind.{AccessKind}
use Rattle.or_bus.specs.Last.{access_of}
use Rattle.or_core.specs.Access.{memory_operand, is_made, access_at, access_by, access_of_word, word_by, step_access, turn_access}
use Rattle.or_replay.specs.declared.watching.Placed.{Placed}
use Rattle.or_replay.specs.Watching.{board_access, board_placed}
use Rattle.or_replay.proofs.LastPlaces.{access_alone}
use Rattle.or_recorded.specs.Racing.{AreNumbered}

-- ---- private steps keep the core's number
private_step-number : (core : Core) → (private_step core).number ≡ core.number
unfolding private_step
private_step-number core = (step-adds core empty_world).settings.number

begun-number : (left : ℕ) (core : Core) (rest : Begun) (follows alone : Bool) → rest.core.number ≡ (private_step core).number
    → (cond alone rest (record { core = core; follows = follows })).core.number ≡ core.number
begun-number left core rest follows true same = same ∙ private_step-number core
begun-number left core rest follows false same = refl

begun_within-number : (left : ℕ) (core : Core) → (begun_within left core).core.number ≡ core.number
unfolding begun_within
begun_within-number zero core = refl
begun_within-number (suc left) core = begun-number left core (begun_within left (private_step core)) _ (steps_alone core) (begun_within-number left (private_step core))

turn_begun-number : (core : Core) → (turn_begun core).core.number ≡ core.number
unfolding turn_begun
turn_begun-number core = begun_within-number 256 core

-- ---- a turn keeps the core's number, so the cores stay in order
ended-number : (core : Core) (world : World) (follows : Bool) → (turn_ended core world follows).core.number ≡ core.number
unfolding turn_ended
ended-number core world true = (step-adds core world).settings.number
ended-number core world false = refl

turn-number : (core : Core) (world : World) → (turn core world).core.number ≡ core.number
unfolding turn
turn-number core world = ended-number (turn_begun core).core world (turn_begun core).follows ∙ turn_begun-number core

set_or_old : (cores : List Core) (place c : ℕ) (new core : Core) → slice_get (slice_set cores place new) c ≡ Some core
    → ((c ≡ place) × (core ≡ new)) ⊎ (slice_get cores c ≡ Some core)
set_or_old [] place c new core at = inr at
set_or_old (first ∷ cores) zero zero new core at = inl (refl, cc)
set_or_old (first ∷ cores) zero (suc c) new core at = inr at
set_or_old (first ∷ cores) (suc place) zero new core at = inr at
set_or_old (first ∷ cores) (suc place) (suc c) new core at = elim (set_or_old cores place c new core at) [ inl w ↦ inl (ap suc w.0, w.1) | inr w ↦ inr w ]

set-numbered : (cores : List Core) (c : ℕ) (new : Core) → new.number ≡ c → AreNumbered cores → AreNumbered (slice_set cores c new)
set-numbered cores c new same numbered k core at = elim (set_or_old cores c k new core at) [
  | inl w ↦ ap (λ (x : Core). x.number) w.1 ∙ same ∙ sym w.0
  | inr w ↦ numbered k core w
]

running-is : (found : Option Core) (core : Core) → running found ≡ Some core → found ≡ Some core
running-is None core is = absurd (let e : ⊥ = cc in e)
running-is (Some other) core is = by_stop (is_none other.stop) is
  where
    by_stop : (none : Bool) → cond none (Some other) None ≡ Some core → Some other ≡ Some core
    by_stop true e = e
    by_stop false e = absurd (let b : ⊥ = cc in b)

turned_by-numbered : (now next : Board) (c : ℕ) (found : Option Core) → ((core : Core) → found ≡ Some core → core.number ≡ c) → AreNumbered now.cores
    → board_turned_by now c found ≡ Some next → AreNumbered next.cores
turned_by-numbered now next c None at numbered is = absurd (let e : ⊥ = cc in e)
turned_by-numbered now next c (Some core) at numbered is =
    let new : Core = (turn core now.world).core in
    let made : Board = record { cores = slice_set now.cores c new; world = (turn core now.world).world } in
    let same : made ≡ next = cc in
    subst (λ (b : Board). AreNumbered b.cores) same (set-numbered now.cores c new (turn-number core now.world ∙ at core refl) numbered)

pub turned-numbered : (now next : Board) (c : ℕ) → AreNumbered now.cores → board_turned now c ≡ Some next → AreNumbered next.cores
unfolding board_turned
turned-numbered now next c numbered is =
    turned_by-numbered now next c (running (slice_get now.cores c)) (λ core at. numbered c core (running-is (slice_get now.cores c) core at)) numbered is

-- ---- an access is the core's own
some_and_then : {A B : Type 0} (f : A → Option B) (o : Option A) (b : B) → option_and_then f o ≡ Some b → (a : A) × (f a ≡ Some b)
some_and_then f None b is = absurd (let e : ⊥ = cc in e)
some_and_then f (Some a) b is = (a, is)

made-core : (made : Bool) (core : Core) (pa : ℕ) (kind : AccessKind) (a : Access) → cond made (Some (access_of core.number pa kind)) None ≡ Some a → a.core ≡ core.number
made-core true core pa kind a is = let same : access_of core.number pa kind ≡ a = cc in sym (ap (λ (x : Access). x.core) same)
made-core false core pa kind a is = absurd (let e : ⊥ = cc in e)

access_at-core : (core : Core) (world : World) (kind : AccessKind) (route : Route) (a : Access) → access_at core world kind route ≡ Some a → a.core ≡ core.number
access_at-core core world kind (Refused cause) a is = absurd (let e : ⊥ = cc in e)
access_at-core core world kind (At pa cached) a is = made-core (in_ram world pa && is_made core world pa kind) core pa kind a is

access_of_word-core : (core : Core) (world : World) (word : ℕ) (a : Access) → access_of_word core world word ≡ Some a → a.core ≡ core.number
unfolding access_of_word
access_of_word-core core world word a is =
    let insn = some_and_then (λ insn. option_and_then (access_by core world) (memory_operand insn)) (decode_of word) a is in
    let by = some_and_then (access_by core world) (memory_operand insn.0) a insn.1 in
    access_at-core core world by.0.kind _ a by.1

step_access-core : (core : Core) (world : World) (a : Access) → step_access core world ≡ Some a → a.core ≡ core.number
unfolding step_access
step_access-core core world a is =
    let word = some_and_then (access_of_word core world) (word_by core world (due_interrupt core)) a is in
    access_of_word-core core world word.0 a word.1

step_where-core : (follows : Bool) (core : Core) (world : World) (a : Access) → cond follows (step_access core world) None ≡ Some a → a.core ≡ core.number
step_where-core true core world a is = step_access-core core world a is
step_where-core false core world a is = absurd (let e : ⊥ = cc in e)

turn_access-core : (core : Core) (world : World) (a : Access) → turn_access core world ≡ Some a → a.core ≡ core.number
unfolding turn_access
turn_access-core core world a is = step_where-core (turn_begun core).follows (turn_begun core).core world a is ∙ turn_begun-number core

by_core : (world : World) (c : ℕ) (a : Access) (found : Option Core) → ((core : Core) → found ≡ Some core → core.number ≡ c)
    → option_and_then (λ core. turn_access core world) found ≡ Some a → a.core ≡ c
by_core world c a None numbered is = absurd (let e : ⊥ = cc in e)
by_core world c a (Some core) numbered is = turn_access-core core world a is ∙ numbered core refl

-- the access of a turn of core c
board_access-core : (board : Board) (c : ℕ) (a : Access) → AreNumbered board.cores → board_access board c ≡ Some a → a.core ≡ c
unfolding board_access
board_access-core board c a numbered is = by_core board.world c a (slice_get board.cores c) (λ core at. numbered c core at) is

pub board_placed-core : (board : Board) (c : ℕ) (a : Placed) → AreNumbered board.cores → board_placed board c ≡ Some a → a.access.core ≡ c
board_placed-core board c a numbered is = board_access-core board c a.access numbered (sym (access_alone board c) ∙ ap (λ (o : Option Placed). option_map (λ (at : Placed). at.access) o) is)
