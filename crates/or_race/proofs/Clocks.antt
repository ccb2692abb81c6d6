-- What one more event does to the clocks.
use Rattle.std.proofs.Common.{◌≡◌, ◌≢◌, ℕ, ◌<◌, ◌≤◌, ◌⊎◌, max, List, [], ◌∷◌, ◌++◌, length, slice_get, slice_index, Some, Bool, true, false, IsTrue, eqb, leb, refl, sym, ap, ◌∙◌, subst, ⊎_elim, inl, inr, arith}
use borrow.Author.Tests.{eqb-true, eqb-false, leb-true, leb-false}
use Rattle.or_bus.specs.declared.access.AccessKind.{AccessKind}
use Rattle.or_bus.specs.declared.access.AccessKind.TheVariants.{Load, Store, Linked, Conditional}
use Rattle.or_race.specs.Event.{Event, is_release, SynchronizesWith, Before}
use Rattle.or_race.specs.Kept.{Reaches, Covers, OfCore, Releases, NextClock}
use Rattle.or_race.proofs.Places.{within, at_old, at_new, at_which, at_below, same_at}
use Rattle.or_race.proofs.Order.{earlier, inside, still, already, by_last, to_last}

pub same_or_not : (m n : ℕ) → (m ≡ n) ⊎ (m ≢ n)
same_or_not m n = by_test (eqb m n) refl
  where
    by_test : (b : Bool) → eqb m n ≡ b → (m ≡ n) ⊎ (m ≢ n)
    by_test true e = inl (eqb-true m n e)
    by_test false e = inr (eqb-false m n e)

pub le_or_lt : (m n : ℕ) → (m ≤ n) ⊎ (n < m)
le_or_lt m n = by_test (leb m n) refl
  where
    by_test : (b : Bool) → leb m n ≡ b → (m ≤ n) ⊎ (n < m)
    by_test true e = inl (leb-true m n e)
    by_test false e = inr (leb-false m n e)

pub le_max : (x a b : ℕ) → x ≤ max a b → (x ≤ a) ⊎ (x ≤ b)
le_max x a b le = ⊎_elim (λ (t : x ≤ a). inl t) (λ (t : a < x). inr (omega arith)) (le_or_lt x a)

-- the new event or one before it
abbrev pub Past : Bool → List Event → Event → ℕ → Type 0
Past locks es e i = (i ≡ length es) ⊎ Before locks (es ++ e ∷ []) i (length es)

-- the turns so far are below the new one
abbrev pub AllBelow : List Event → ℕ → Type 0
AllBelow es turn = (i : ℕ) (f : Event) → slice_get es i ≡ Some f → f.turn < turn

pub kind_or_not : (k : AccessKind) → (k ≡ Linked) ⊎ (k ≢ Linked)
kind_or_not Load = inr (λ e. cc)
kind_or_not Store = inr (λ e. cc)
kind_or_not Linked = inl refl
kind_or_not Conditional = inr (λ e. cc)

module _ {locks : Bool} where
  pub reach_still : (es : List Event) (e : Event) (P : Event → Type 0) (i : ℕ) → Reaches locks es P i → Reaches locks (es ++ e ∷ []) P i
  reach_still es e P i r = record {
    j = r.j;
    last = r.last;
    at = at_old es e r.j r.last r.at;
    holds = r.holds;
    way = ⊎_elim (λ (t : i ≡ r.j). inl t) (λ (t : Before locks es i r.j). inr (still es e t)) r.way;
  }

  pub reach_new : (es : List Event) (e : Event) (P : Event → Type 0) (i : ℕ) → P e → Past locks es e i → Reaches locks (es ++ e ∷ []) P i
  reach_new es e P i h way = record { j = length es; last = e; at = at_new es e; holds = h; way = way }

  -- the event at i of the longer list, by whether what it reaches is old
  pub reach_split : (es : List Event) (e : Event) (P : Event → Type 0) (i : ℕ) → Reaches locks (es ++ e ∷ []) P i → Reaches locks es P i ⊎ (P e × Past locks es e i)
  reach_split es e P i r = ⊎_elim
      (λ (t : slice_get es r.j ≡ Some r.last). inl (record {
        j = r.j;
        last = r.last;
        at = t;
        holds = r.holds;
        way = ⊎_elim (λ (w : i ≡ r.j). inl w) (λ (w : Before locks (es ++ e ∷ []) i r.j). inr (already es e w (within es r.j r.last t))) r.way;
      }))
      (λ (t : (r.j ≡ length es) × (r.last ≡ e)). inr (subst P t.1 r.holds, subst (λ (k : ℕ). (i ≡ k) ⊎ Before locks (es ++ e ∷ []) i k) t.0 r.way))
      (at_which es e r.j r.last r.at)

  -- what a core has seen, after its event
  pub core_past : (es : List Event) (e : Event) (i : ℕ) → Reaches locks (es ++ e ∷ []) (OfCore e.core) i → Past locks es e i
  core_past es e i r = ⊎_elim
      (λ (t : Reaches locks es (OfCore e.core) i). inr (to_last es e i (record { j = t.j; last = t.last; at = t.at; holds = inl t.holds; way = t.way })))
      (λ (t : (e.core ≡ e.core) × Past locks es e i). t.1)
      (reach_split es e (OfCore e.core) i r)

  -- what comes before a new event has reached its core, or was released on to it
  pub past_by : (es : List Event) (e : Event) (i : ℕ) → Before locks (es ++ e ∷ []) i (length es) → Reaches locks es (OfCore e.core) i ⊎ ((e.kind ≡ Linked) × Reaches locks es (Releases locks e.word) i)
  past_by es e i b =
      let r = by_last es e b refl in
      ⊎_elim
      (λ (t : r.last.core ≡ e.core). inl (record { j = r.j; last = r.last; at = r.at; holds = t; way = r.way }))
      (λ (t : SynchronizesWith locks r.last e). inr (t.to, record { j = r.j; last = r.last; at = r.at; holds = record { kind = t.from; same = t.word }; way = r.way }))
      r.holds

  pub past_core : (es : List Event) (e : Event) (i : ℕ) → Reaches locks es (OfCore e.core) i → Before locks (es ++ e ∷ []) i (length es)
  past_core es e i t = to_last es e i (record { j = t.j; last = t.last; at = t.at; holds = inl t.holds; way = t.way })

  pub past_released : (es : List Event) (e : Event) (i : ℕ) → e.kind ≡ Linked → Reaches locks es (Releases locks e.word) i → Before locks (es ++ e ∷ []) i (length es)
  past_released es e i k t = to_last es e i (record { j = t.j; last = t.last; at = t.at; holds = inr (record { from = t.holds.kind; to = k; word = t.holds.same }); way = t.way })

  -- a clock that the new event leaves
  pub clock_stays : (es : List Event) (e : Event) (last : ℕ) (clock : List ℕ) (P : Event → Type 0) → last < e.turn → (P e → ⊥) → Covers es last clock (Reaches locks es P) → Covers (es ++ e ∷ []) e.turn clock (Reaches locks (es ++ e ∷ []) P)
  clock_stays es e last clock P later not_new c = record {
    told = λ i f at h. ⊎_elim
        (λ (t : slice_get es i ≡ Some f). reach_still es e P i (c.told i f t h))
        (λ (t : (i ≡ length es) × (f ≡ e)). let u = c.under f.core in let same : f.turn ≡ e.turn = ap (λ (x : Event). x.turn) t.1 in absurd (omega arith))
        (at_which es e i f at);
    counted = λ i f at r. ⊎_elim
        (λ (t : Reaches locks es P i). c.counted i f (at_below es e i f (old_place t) at) t)
        (λ (t : P e × Past locks es e i). absurd (not_new t.0))
        (reach_split es e P i r);
    under = λ core. let u = c.under core in omega arith;
  }
    where
      old_place : {i : ℕ} → Reaches locks es P i → i < length es
      old_place {i} r = ⊎_elim (λ (t : i ≡ r.j). let l = within es r.j r.last r.at in omega arith) (λ (t : Before locks es i r.j). let l = earlier es t in let m = inside es t in omega arith) r.way

  pub own_clock : (es : List Event) (e : Event) (last : ℕ) (before released clock : List ℕ) → last < e.turn → AllBelow es e.turn → Covers es last before (Reaches locks es (OfCore e.core)) → Covers es last released (Reaches locks es (Releases locks e.word)) → NextClock e before released clock → Covers (es ++ e ∷ []) e.turn clock (Past locks es e)
  own_clock es e last before released clock later below c h n = record {
    told = λ i f at le. ⊎_elim
        (λ (t : slice_get es i ≡ Some f). inr (⊎_elim
        (λ (same : f.core ≡ e.core). past_core es e i (record { j = i; last = f; at = t; holds = same; way = inl refl }))
        (λ (other : f.core ≢ e.core). ⊎_elim
        (λ (linked : e.kind ≡ Linked). let q = n.joined f.core other linked in ⊎_elim
        (λ (x : f.turn ≤ slice_index before f.core). past_core es e i (c.told i f t x))
        (λ (x : f.turn ≤ slice_index released f.core). past_released es e i linked (h.told i f t x))
        (le_max f.turn (slice_index before f.core) (slice_index released f.core) (subst (λ (x : ℕ). f.turn ≤ x) q le)))
        (λ (plain : e.kind ≢ Linked). past_core es e i (c.told i f t (subst (λ (x : ℕ). f.turn ≤ x) (n.kept f.core other plain) le)))
        (kind_or_not e.kind))
        (same_or_not f.core e.core)))
        (λ (t : (i ≡ length es) × (f ≡ e)). inl t.0)
        (at_which es e i f at);
    counted = λ i f at p. ⊎_elim
        (λ (t : i ≡ length es). newest i f at t)
        (λ (t : Before locks (es ++ e ∷ []) i (length es)).
        let old : slice_get es i ≡ Some f = at_below es e i f (earlier (es ++ e ∷ []) t) at in
        ⊎_elim
        (λ (same : f.core ≡ e.core). let b = below i f old in let q : slice_index clock f.core ≡ e.turn = ap (slice_index clock) same ∙ n.own in omega arith)
        (λ (other : f.core ≢ e.core). ⊎_elim
        (λ (linked : e.kind ≡ Linked). let q = n.joined f.core other linked in ⊎_elim
        (λ (r : Reaches locks es (OfCore e.core) i). let x = c.counted i f old r in omega arith)
        (λ (r : (e.kind ≡ Linked) × Reaches locks es (Releases locks e.word) i). let x = h.counted i f old r.1 in omega arith)
        (past_by es e i t))
        (λ (plain : e.kind ≢ Linked). let q = n.kept f.core other plain in ⊎_elim
        (λ (r : Reaches locks es (OfCore e.core) i). let x = c.counted i f old r in omega arith)
        (λ (r : (e.kind ≡ Linked) × Reaches locks es (Releases locks e.word) i). absurd (plain r.0))
        (past_by es e i t))
        (kind_or_not e.kind))
        (same_or_not f.core e.core))
        p;
    under = λ core. ⊎_elim
        (λ (same : core ≡ e.core). let q : slice_index clock core ≡ e.turn = ap (slice_index clock) same ∙ n.own in omega arith)
        (λ (other : core ≢ e.core). let a = c.under core in let b = h.under core in ⊎_elim
        (λ (linked : e.kind ≡ Linked). let q = n.joined core other linked in omega arith)
        (λ (plain : e.kind ≢ Linked). let q = n.kept core other plain in omega arith)
        (kind_or_not e.kind))
        (same_or_not core e.core);
  }
    where
      newest : (i : ℕ) (f : Event) → slice_get (es ++ e ∷ []) i ≡ Some f → i ≡ length es → f.turn ≤ slice_index clock f.core
      newest i f at same = let is : f ≡ e = same_at (es ++ e ∷ []) (length es) f e (ap (slice_get (es ++ e ∷ [])) (sym same) ∙ at) (at_new es e) in subst (λ (x : Event). x.turn ≤ slice_index clock x.core) (sym is) (let q = n.own in omega arith)

  -- what is released on the word from then on
  pub released_clock : (es : List Event) (e : Event) (last : ℕ) (released clock new : List ℕ) → last < e.turn → IsTrue (is_release locks e.kind) → Covers es last released (Reaches locks es (Releases locks e.word)) → Covers (es ++ e ∷ []) e.turn clock (Past locks es e) → ((core : ℕ) → slice_index new core ≡ max (slice_index released core) (slice_index clock core)) → Covers (es ++ e ∷ []) e.turn new (Reaches locks (es ++ e ∷ []) (Releases locks e.word))
  released_clock es e last released clock new later kind h c n = record {
    told = λ i f at le. ⊎_elim
        (λ (x : f.turn ≤ slice_index released f.core). ⊎_elim
        (λ (t : slice_get es i ≡ Some f). reach_still es e (Releases locks e.word) i (h.told i f t x))
        (λ (t : (i ≡ length es) × (f ≡ e)). let u = h.under f.core in let same : f.turn ≡ e.turn = ap (λ (y : Event). y.turn) t.1 in absurd (omega arith))
        (at_which es e i f at))
        (λ (x : f.turn ≤ slice_index clock f.core). reach_new es e (Releases locks e.word) i (record { kind = kind; same = refl }) (c.told i f at x))
        (le_max f.turn (slice_index released f.core) (slice_index clock f.core) (subst (λ (x : ℕ). f.turn ≤ x) (n f.core) le));
    counted = λ i f at r. let q = n f.core in ⊎_elim
        (λ (t : Reaches locks es (Releases locks e.word) i). let x = h.counted i f (at_below es e i f (old_place t) at) t in omega arith)
        (λ (t : Releases locks e.word e × Past locks es e i). let x = c.counted i f at t.1 in omega arith)
        (reach_split es e (Releases locks e.word) i r);
    under = λ core. let a = h.under core in let b = c.under core in let q = n core in omega arith;
  }
    where
      old_place : {i : ℕ} → Reaches locks es (Releases locks e.word) i → i < length es
      old_place {i} r = ⊎_elim (λ (t : i ≡ r.j). let l = within es r.j r.last r.at in omega arith) (λ (t : Before locks es i r.j). let l = earlier es t in let m = inside es t in omega arith) r.way

  -- the clock of the core, as it covers what the core has reached
  pub as_reached : (es : List Event) (e : Event) (last : ℕ) (clock : List ℕ) → Covers (es ++ e ∷ []) last clock (Past locks es e) → Covers (es ++ e ∷ []) last clock (Reaches locks (es ++ e ∷ []) (OfCore e.core))
  as_reached es e last clock c = record {
    told = λ i f at le. reach_new es e (OfCore e.core) i refl (c.told i f at le);
    counted = λ i f at r. c.counted i f at (core_past es e i r);
    under = c.under;
  }
