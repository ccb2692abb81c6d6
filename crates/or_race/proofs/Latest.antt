-- The last events of a kind.
use Rattle.std.proofs.Common.{◌≡◌, ℕ, ◌<◌, ◌≤◌, ◌⊎◌, max, List, [], ◌∷◌, ◌++◌, length, slice_get, Some, Bool, true, false, cond, IsTrue, refl, sym, ap, subst, ⊎_elim, inl, inr, arith}
use Rattle.std.specs.Prelude.{nat_lt}
use Rattle.std.proofs.lemmas.Bool.Decides.{nat_tests}
use Rattle.or_bus.specs.declared.access.AccessKind.{AccessKind}
use Rattle.or_bus.specs.declared.access.AccessKind.TheVariants.{Load, Store, Linked, Conditional}
use Rattle.or_race.specs.declared.word.Word.{Word}
use Rattle.or_race.specs.Event.{Event}
use Rattle.or_race.specs.Race.{kinds_conflict}
use Rattle.or_race.specs.declared.word.Last.{Last}
use Rattle.or_race.specs.Kept.{IsLatest, IsOf, IsPlaced, last_at, later_access, conflicting_of}
use Rattle.or_race.proofs.Places.{at_old, at_new, at_which}
use Rattle.or_race.proofs.Clocks.{AllBelow, le_or_lt}

-- a new event of that kind is the last
pub latest_new : (es : List Event) (e : Event) (P : Event → Type 0) → AllBelow es e.turn → P e → IsLatest (es ++ e ∷ []) P e.turn
latest_new es e P below h = record {
  most = λ i f at p. ⊎_elim
      (λ (t : slice_get es i ≡ Some f). let b = below i f t in omega arith)
      (λ (t : (i ≡ length es) × (f ≡ e)). let same : f.turn ≡ e.turn = ap (λ (x : Event). x.turn) t.1 in omega arith)
      (at_which es e i f at);
  some = λ _. record { i = length es; e = e; at = at_new es e; holds = h; turn_is = refl };
}

-- one of another kind changes nothing
pub latest_stays : (es : List Event) (e : Event) (P : Event → Type 0) (t : ℕ) → (P e → ⊥) → IsLatest es P t → IsLatest (es ++ e ∷ []) P t
latest_stays es e P t other l = record {
  most = λ i f at p. ⊎_elim
      (λ (x : slice_get es i ≡ Some f). l.most i f x p)
      (λ (x : (i ≡ length es) × (f ≡ e)). absurd (other (subst P x.1 p)))
      (at_which es e i f at);
  some = λ h. let w = l.some h in record { i = w.i; e = w.e; at = at_old es e w.i w.e w.at; holds = w.holds; turn_is = w.turn_is };
}

pub latest_or : (es : List Event) (P Q : Event → Type 0) (s t : ℕ) → IsLatest es P s → IsLatest es Q t → IsLatest es (λ e. P e ⊎ Q e) (max s t)
latest_or es P Q s t p q = record {
  most = λ i e at h. ⊎_elim
      (λ (x : P e). let m = p.most i e at x in omega arith)
      (λ (x : Q e). let m = q.most i e at x in omega arith)
      h;
  some = λ h. ⊎_elim
      (λ (le : s ≤ t). let w = q.some (omega arith) in record { i = w.i; e = w.e; at = w.at; holds = inr w.holds; turn_is = let z = w.turn_is in omega arith })
      (λ (lt : t < s). let w = p.some (omega arith) in record { i = w.i; e = w.e; at = w.at; holds = inl w.holds; turn_is = let z = w.turn_is in omega arith })
      (le_or_lt s t);
}

pub latest_iff : (es : List Event) (P R : Event → Type 0) (t : ℕ) → ((e : Event) → R e → P e) → ((e : Event) → P e → R e) → IsLatest es P t → IsLatest es R t
latest_iff es P R t back forth l = record {
  most = λ i e at r. l.most i e at (back e r);
  some = λ h. let w = l.some h in record { i = w.i; e = w.e; at = w.at; holds = forth w.e w.holds; turn_is = w.turn_is };
}

abbrev pick : Bool → ℕ → ℕ
pick true t = t
pick false t = 0

abbrev Chosen : (Event → Type 0) → Bool → Event → Type 0
Chosen P b e = P e × IsTrue b

latest_pick : (es : List Event) (P : Event → Type 0) (t : ℕ) (b : Bool) → IsLatest es P t → IsLatest es (Chosen P b) (pick b t)
latest_pick es P t true l = latest_iff es P (Chosen P true) t (λ e h. h.0) (λ e h. (h, refl)) l
latest_pick es P t false l = record {
  most = λ i e at h. absurd (never h.1);
  some = λ h. absurd (omega arith);
}
  where
    never : false ≡ true → ⊥
    never z = cc

-- an event on the word by the core that conflicts with one of this kind
pub record Conflicting (word core : ℕ) (kind : AccessKind) (e : Event) : Type 0 where
  pub same_word : e.word ≡ word
  pub same_core : e.core ≡ core
  pub kinds : IsTrue (kinds_conflict e.kind kind)

abbrev picked : AccessKind → Word → ℕ → AccessKind → ℕ
picked kind s core k = pick (kinds_conflict k kind) (last_at k s core).turn

abbrev all_picked : AccessKind → Word → ℕ → ℕ
all_picked kind s core = max (max (picked kind s core Load) (picked kind s core Store)) (max (picked kind s core Linked) (picked kind s core Conditional))

later_turn : (a b : Last) → (later_access a b).turn ≡ max a.turn b.turn
later_turn a b = grind (arith, nat_tests)

conflicting_is : (kind : AccessKind) (s : Word) (core : ℕ) → (conflicting_of kind s core).turn ≡ all_picked kind s core
conflicting_is Load s core = omega (arith, later_turn (last_at Store s core) (last_at Conditional s core))
conflicting_is Store s core =
    let plain = later_access (last_at Load s core) (last_at Store s core) in
    let locked = later_access (last_at Linked s core) (last_at Conditional s core) in
    omega (arith, later_turn plain locked, later_turn (last_at Load s core) (last_at Store s core), later_turn (last_at Linked s core) (last_at Conditional s core))
conflicting_is Linked s core = omega arith
conflicting_is Conditional s core = omega (arith, later_turn (last_at Load s core) (last_at Store s core))

-- the later of two accesses that are placed is placed
later_placed : (es : List Event) (word core : ℕ) (a b : Last) → IsPlaced es word core a → IsPlaced es word core b → IsPlaced es word core (later_access a b)
later_placed es word core a b p q = by_test (nat_lt a.turn b.turn)
  where
    by_test : (less : Bool) → IsPlaced es word core (cond less b a)
    by_test true = q
    by_test false = p

-- so the last conflicting is
pub conflicting_placed : (es : List Event) (word core : ℕ) (kind : AccessKind) (s : Word) → ((k : AccessKind) → IsPlaced es word core (last_at k s core)) → IsPlaced es word core (conflicting_of kind s core)
conflicting_placed es word core Load s at = later_placed es word core (last_at Store s core) (last_at Conditional s core) (at Store) (at Conditional)
conflicting_placed es word core Store s at =
    later_placed es word core (later_access (last_at Load s core) (last_at Store s core)) (later_access (last_at Linked s core) (last_at Conditional s core))
    (later_placed es word core (last_at Load s core) (last_at Store s core) (at Load) (at Store))
    (later_placed es word core (last_at Linked s core) (last_at Conditional s core) (at Linked) (at Conditional))
conflicting_placed es word core Linked s at = at Store
conflicting_placed es word core Conditional s at = later_placed es word core (last_at Load s core) (last_at Store s core) (at Load) (at Store)

-- the last conflicting, where the last accesses are right
pub last_conflicting : (es : List Event) (word core : ℕ) (kind : AccessKind) (s : Word) → ((k : AccessKind) → IsLatest es (IsOf word core k) (last_at k s core).turn) → IsLatest es (Conflicting word core kind) (conflicting_of kind s core).turn
last_conflicting es word core kind s lasts = subst (IsLatest es (Conflicting word core kind)) (sym (conflicting_is kind s core))
    (latest_iff es U (Conflicting word core kind) (all_picked kind s core) back forth
    (latest_or es (λ e. Q Load e ⊎ Q Store e) (λ e. Q Linked e ⊎ Q Conditional e) (max (picked kind s core Load) (picked kind s core Store)) (max (picked kind s core Linked) (picked kind s core Conditional))
    (latest_or es (Q Load) (Q Store) (picked kind s core Load) (picked kind s core Store) (part Load) (part Store))
    (latest_or es (Q Linked) (Q Conditional) (picked kind s core Linked) (picked kind s core Conditional) (part Linked) (part Conditional))))
  where
    Q : AccessKind → Event → Type 0
    Q k = Chosen (IsOf word core k) (kinds_conflict k kind)

    U : Event → Type 0
    U e = (Q Load e ⊎ Q Store e) ⊎ (Q Linked e ⊎ Q Conditional e)

    part : (k : AccessKind) → IsLatest es (Q k) (picked kind s core k)
    part k = latest_pick es (IsOf word core k) (last_at k s core).turn (kinds_conflict k kind) (lasts k)

    place : (k : AccessKind) (e : Event) → Q k e → U e
    place Load e h = inl (inl h)
    place Store e h = inl (inr h)
    place Linked e h = inr (inl h)
    place Conditional e h = inr (inr h)

    back : (e : Event) → Conflicting word core kind e → U e
    back e r = place e.kind e (record { same_word = r.same_word; same_core = r.same_core; same_kind = refl }, r.kinds)

    one : (k : AccessKind) (e : Event) → Q k e → Conflicting word core kind e
    one k e h = record { same_word = h.0.same_word; same_core = h.0.same_core; kinds = subst (λ (x : AccessKind). IsTrue (kinds_conflict x kind)) (sym h.0.same_kind) h.1 }

    forth : (e : Event) → U e → Conflicting word core kind e
    forth e u = ⊎_elim (λ (x : Q Load e ⊎ Q Store e). ⊎_elim (one Load e) (one Store e) x) (λ (x : Q Linked e ⊎ Q Conditional e). ⊎_elim (one Linked e) (one Conditional e) x) u
