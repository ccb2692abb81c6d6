-- What stays true of the seats that a step does not touch.
use Rattle.std.proofs.Common.{◌≡◌, ◌≢◌, ℕ, zero, suc, ◌-◌, ◌<◌, Bool, true, false, List, [], ◌∷◌, ◌++◌, length, set, refl, sym, ap, ◌∙◌, subst, ⊎_elim, arith, Option}
use mathlib.Core.Logic.{dite}
use mathlib.Core.Option.{some, some-injective, some-ne-none}
use native.Mathlib.Decide.{ℕ_discrete}
use lib.ListN.{get_elem?}
use Rattle.atomic_table.specs.Table.{State}
use Rattle.atomic_table.proofs.Lists.{at_set, set_else, at_longer}
use Rattle.or_turn.specs.declared.view.Settings.{Settings}
use Rattle.or_turn.specs.Schedules.{count}
use Rattle.or_turn.specs.declared.view.Transfer.{Transfer}
use Rattle.or_turn.specs.declared.view.Stage.{Stage}
use Rattle.or_turn.specs.declared.view.Stage.TheVariants.{Idle, Waits, Holds, Joined, Spent}
use Rattle.or_turn.specs.declared.view.View.{View}
use Rattle.or_turn.specs.Rule.{spent_view, SlotHolds, Witness, StageHolds, AreJoined, SeatKnows, IsHolder, Has, SlotIs}

-- a function on numbers, changed at one of them
abbrev pick : {P : Type 0} → Dec P → ℕ → ℕ → ℕ
pick (yes _) a b = a
pick (no _) a b = b

pub put : (ℕ → ℕ) → ℕ → ℕ → ℕ → ℕ
put f i c j = pick (ℕ_discrete j i) c (f j)

pub put_here : (f : ℕ → ℕ) (i c : ℕ) → put f i c i ≡ c
unfolding put
put_here f i c = go (ℕ_discrete i i)
  where
    go : (d : Dec (i ≡ i)) → pick d c (f i) ≡ c
    go (yes _) = refl
    go (no n) = absurd (n refl)

pub put_else : (f : ℕ → ℕ) (i c j : ℕ) → j ≢ i → put f i c j ≡ f j
unfolding put
put_else f i c j other = go (ℕ_discrete j i)
  where
    go : (d : Dec (j ≡ i)) → pick d c (f j) ≡ f j
    go (yes e) = absurd (other e)
    go (no _) = refl

-- who had what the seat `from` had has it at the seat `to`
pub moved : (ℕ → ℕ) → ℕ → ℕ → ℕ → ℕ
moved f from to j = pick (ℕ_discrete (f j) from) to (f j)

pub moved_here : (f : ℕ → ℕ) (from to j : ℕ) → f j ≡ from → moved f from to j ≡ to
unfolding moved
moved_here f from to j e = go (ℕ_discrete (f j) from)
  where
    go : (d : Dec (f j ≡ from)) → pick d to (f j) ≡ to
    go (yes _) = refl
    go (no n) = absurd (n e)

pub moved_else : (f : ℕ → ℕ) (from to j : ℕ) → f j ≢ from → moved f from to j ≡ f j
unfolding moved
moved_else f from to j other = go (ℕ_discrete (f j) from)
  where
    go : (d : Dec (f j ≡ from)) → pick d to (f j) ≡ f j
    go (yes e) = absurd (other e)
    go (no _) = refl

pub set_at : {A : Type 0} (l : List A) (i : ℕ) (a b : A) → get_elem? l i ≡ some a → get_elem? (set l i b) i ≡ some b
set_at [] i a b e = absurd (some-ne-none a (sym e))
set_at (x ∷ xs) zero a b e = refl
set_at (x ∷ xs) (suc i) a b e = set_at xs i a b e

pub same_at : (vs : List View) (i j : ℕ) (v w : View) → get_elem? vs i ≡ some v → get_elem? vs j ≡ some w → i ≡ j → v ≡ w
same_at vs i j v w a b e = some-injective v w (sym a ∙ (ap (get_elem? vs) e ∙ b))

-- a fact of one seat, after a step of the seat me
module _ (vs : List View) (me : ℕ) (v w : View) (at : get_elem? vs me ≡ some v) where
  pub has_me : (P : View → Type 0) → P w → Has (set vs me w) me P
  has_me P p = (w, set_at vs me v w at, p)

  pub has_else : (j : ℕ) (P : View → Type 0) → j ≢ me → Has vs j P → Has (set vs me w) j P
  has_else j P other h = (h.0, set_else vs me j w other ∙ h.1, h.2)

  -- a fact that the step does not end
  pub has_still : (j : ℕ) (P Q : View → Type 0) → ((x : View) → P x → Q x) → (P v → Q w) → Has vs j P → Has (set vs me w) j Q
  has_still j P Q keep change h = dite (ℕ_discrete j me)
      (λ e. let p : P v = subst P (same_at vs j me h.0 v h.1 at e) h.2 in subst (λ (x : ℕ). Has (set vs me w) x Q) (sym e) (has_me Q (change p)))
      (λ other. has_else j Q other (h.0, h.1, keep h.0 h.2))

  pub each_still : (K : ℕ → View → Type 0) → K me w → ((j : ℕ) (x : View) → j ≢ me → get_elem? vs j ≡ some x → K j x) → (j : ℕ) (x : View) → get_elem? (set vs me w) j ≡ some x → K j x
  each_still K mine others j x e = ⊎_elim (λ (t : (j ≡ me) × (w ≡ x)). subst (λ (p : ℕ × View). K p.0 p.1) (λ i. (sym t.0 i, t.1 i)) mine)
      (λ (t : (j ≢ me) × (get_elem? vs j ≡ some x)). others j x t.0 t.1) (at_set vs me j w x e)

-- a view that is not spent has the settings
pub live : (st : Settings) (n : Witness) (j : ℕ) (v : View) → SeatKnows st n j v → (v.stage ≡ Spent → ⊥) → v.settings ≡ st
live st n j v k not = ⊎_elim (λ (e : v ≡ spent_view). absurd (not (ap (λ (x : View). x.stage) e))) (λ (e : v.settings ≡ st). e) k.settings

-- two seats with one core are one seat
pub one_owner : (st : Settings) (n : Witness) (i j c : ℕ) (v w : View) → SeatKnows st n i v → SeatKnows st n j w → 0 < count c v.cores → 0 < count c w.cores → i ≡ j
one_owner st n i j c v w a b p q = sym (a.cores c p).1 ∙ (b.cores c q).1

-- the stage under a longer queue
pub stage_longer : (n n' : Witness) (more : List ℕ) (mine seen : List ℕ) (x : Stage) → n'.schedule ≡ n.schedule → n'.stays ≡ n.stays → n'.held ≡ n.held → n'.queue ≡ n.queue ++ more → StageHolds n mine seen x → StageHolds n' mine seen x
stage_longer n n' more mine seen Idle s z h q k = tt
stage_longer n n' more mine seen Spent s z h q k = tt
stage_longer n n' more mine seen (Joined x) s z h q k = subst (λ (xs : List ℕ). AreJoined xs mine seen x) (sym s) k
stage_longer n n' more mine seen (Waits t) s z h q k = let l : length n'.stays ≡ length n.stays = ap (λ (xs : List (ℕ × ℕ)). length xs) z in (
  k.0,
  k.1,
  (let a = k.2 in omega arith),
  ap (λ (xs : List ℕ). get_elem? xs (t - length n'.stays)) q ∙ (ap (λ (i : ℕ). get_elem? (n.queue ++ more) (t - i)) l ∙ at_longer n.queue more (t - length n.stays) k.0 k.3),
)
stage_longer n n' more mine seen Holds s z h q k = (k.0, k.1, k.2 ∙ sym s, ap (λ (xs : List ℕ). get_elem? xs 0) q ∙ at_longer n.queue more 0 k.0 k.3, h ∙ k.4)

abbrev St : Type 0
St = State (Option Transfer) View

-- the slot, where the step leaves it
pub slot_still : (st : Settings) (n n' : Witness) (b : Bool) (s s' : St) → n'.schedule ≡ n.schedule → s'.homes ≡ s.homes
    → ((j : ℕ) → Has s.views j (λ v. IsHolder v.stage) → (j' : ℕ) × Has s'.views j' (λ v. IsHolder v.stage)) → SlotIs st n b s → SlotIs st n' b s'
slot_still st n n' true s s' e h hold k = (h ∙ k.0, hold k.1.0 k.1.1)
slot_still st n n' false s s' e h hold k = (k.0, h ∙ k.1, subst (λ (xs : List ℕ). SlotHolds st xs k.0) (sym e) k.2)
