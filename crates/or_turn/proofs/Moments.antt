-- The parts of the rule follow from what the table keeps.
use Rattle.std.proofs.Common.{◌≡◌, ℕ, zero, suc, ◌+◌, ◌-◌, ◌<◌, ◌≤◌, Bool, true, false, List, [], ◌∷◌, length, get_or, refl, sym, ap, ◌∙◌, arith, Option, Some}
use mathlib.Core.Option.{some, none, some-injective, some-ne-none}
use lib.ListN.{get_elem?}
use Rattle.atomic_table.specs.Table.{State}
use Rattle.or_turn.specs.declared.view.Settings.{Settings}
use Rattle.or_turn.proofs.Steps.{count_steps}
use Rattle.or_turn.specs.declared.view.Transfer.{Transfer}
use Rattle.or_turn.specs.declared.view.Stage.{Stage}
use Rattle.or_turn.specs.declared.view.Stage.TheVariants.{Idle, Waits, Holds, Joined, Spent}
use Rattle.or_turn.specs.declared.view.View.{View}
use Rattle.or_turn.specs.Rule.{SlotHolds, Witness, StageHolds, InTurn, IsHolder, Has, SlotIs, RuleHolds}
use Rattle.or_turn.specs.Parts.{At, HasTicket, Parts}
use Rattle.or_turn.proofs.Seats.{live, one_owner}
use Rattle.or_turn.proofs.Waiting.{only}

at_lt : (l : List ℕ) (i a : ℕ) → get_elem? l i ≡ some a → i < length l
at_lt [] i a e = absurd (some-ne-none a (sym e))
at_lt (y ∷ ys) zero a e = omega arith
at_lt (y ∷ ys) (suc i) a e = let h = at_lt ys i a e in omega arith

lt_at : (l : List ℕ) (i : ℕ) → i < length l → (a : ℕ) × (get_elem? l i ≡ some a)
lt_at [] i h = absurd (omega arith)
lt_at (y ∷ ys) zero h = (y, refl)
lt_at (y ∷ ys) (suc i) h = lt_at ys i (omega arith)

-- where the ticket of a view stands in the queue
place_of : (n : Witness) (mine seen : List ℕ) (x : Stage) (serving t : ℕ) → serving ≡ length n.stays → StageHolds n mine seen x → HasTicket serving t x
    → (c : ℕ) × (mine ≡ c ∷ []) × (length n.stays ≤ t) × (get_elem? n.queue (t - length n.stays) ≡ some c)
place_of n mine seen Idle serving t e k h = absurd h
place_of n mine seen (Joined _) serving t e k h = absurd h
place_of n mine seen Spent serving t e k h = absurd h
place_of n mine seen (Waits u) serving t e k h = (k.0, k.1, (let l = k.2 in omega arith), ap (λ (i : ℕ). get_elem? n.queue (i - length n.stays)) (sym h) ∙ k.3)
place_of n mine seen Holds serving t e k h = (k.0, k.1, omega arith, ap (get_elem? n.queue) (let z : t - length n.stays ≡ 0 = omega arith in z) ∙ k.3)

has_ticket : (n : Witness) (i : ℕ) (x : Stage) (serving t : ℕ) → serving ≡ length n.stays → t ≡ length n.stays + i → InTurn n i x → HasTicket serving t x
has_ticket n i Idle serving t e f h = h
has_ticket n i (Joined _) serving t e f h = h
has_ticket n i Spent serving t e f h = h
has_ticket n i (Waits u) serving t e f h = h ∙ sym f
has_ticket n i Holds serving t e f h = omega arith

holder_seen : (n : Witness) (mine seen : List ℕ) (x : Stage) → StageHolds n mine seen x → IsHolder x → (seen ≡ n.schedule) × (n.held ≡ true)
holder_seen n mine seen Holds k h = (k.2, k.4)
holder_seen n mine seen Idle k h = absurd h
holder_seen n mine seen (Waits _) k h = absurd h
holder_seen n mine seen (Joined _) k h = absurd h
holder_seen n mine seen Spent k h = absurd h

module _ (st : Settings) (s : State (Option Transfer) View) (kept : RuleHolds st s) where
  abbrev n : Witness
  n = kept.now

  w0 : get_or s.words 0 0 ≡ length n.stays + length n.queue
  w0 = ap (λ (ws : List ℕ). get_or ws 0 0) kept.words

  w1 : get_or s.words 1 0 ≡ length n.stays
  w1 = ap (λ (ws : List ℕ). get_or ws 1 0) kept.words

  w2 : get_or s.words 2 0 ≡ n.enrolled
  w2 = ap (λ (ws : List ℕ). get_or ws 2 0) kept.words

  place : (j t : ℕ) (v : View) → At s j v → HasTicket (get_or s.words 1 0) t v.stage → (c : ℕ) × (v.cores ≡ c ∷ []) × (length n.stays ≤ t) × (get_elem? n.queue (t - length n.stays) ≡ some c)
  place j t v at h = place_of n v.cores v.seen v.stage (get_or s.words 1 0) t w1 (kept.each j v at).stage h

  home_at : (b : Bool) → n.held ≡ b → SlotIs st n b s → (((j : ℕ) → Has s.views j (λ v. IsHolder v.stage) → ⊥) → (transfer : Transfer) × (s.homes ≡ some (Some transfer) ∷ []) × SlotHolds st n.schedule transfer)
  home_at true e k nobody = absurd (nobody k.1.0 k.1.1)
  home_at false e k nobody = k

  out_at : (b : Bool) → n.held ≡ b → SlotIs st n b s → (j : ℕ) → Has s.views j (λ v. IsHolder v.stage) → s.homes ≡ none ∷ []
  out_at true e k j h = k.0
  out_at false e k j h = let t = (holder_seen n h.0.cores h.0.seen h.0.stage (kept.each j h.0 h.1).stage h.2).1 in absurd (let z : true ≡ false = sym t ∙ e in cc)

  pub parts : Parts st s
  parts = record {
    schedule = n.schedule;
    stays = n.stays;
    one_mark = λ i j a b v w p q x y. ((kept.each i v p).opening a x).0 ∙ sym ((kept.each j w q).opening b y).0;
    mark_counts = λ j a v p x. let e = (kept.each j v p).opening a x in e.1 ∙ sym w2;
    enrolled_most = let m = kept.most in let e = w2 in omega arith;
    only_enrolled = λ j c v p x. let m = (kept.each j v p).cores c x in let l = m.0 in let e = w2 in omega arith;
    each_enrolled = λ c h. (n.owner c, kept.owned c (let e = w2 in omega arith));
    in_one = λ i j c v w p q x y. one_owner st n i j c v w (kept.each i v p) (kept.each j w q) x y;
    once = λ j c v p. (kept.each j v p).once c;
    none_else = λ c h. kept.others c (let e = w2 in omega arith);
    same_settings = λ j v p x. live st n j v (kept.each j v p) x;
    served = w1;
    ticket_between = λ j t v p x. let k = place j t v p x in let low = k.2 in let l = at_lt n.queue (t - length n.stays) k.0 k.3 in let a = w0 in let b = w1 in (omega arith, omega arith);
    each_ticket = λ t low high. let a = w0 in let b = w1 in let k = lt_at n.queue (t - length n.stays) (omega arith) in let h = kept.waiting (t - length n.stays) k.0 k.1 in
        (n.owner k.0, (h.0, h.1, has_ticket n (t - length n.stays) h.0.stage (get_or s.words 1 0) t w1 (omega arith) h.2));
    one_ticket = λ i j t v w p q x y. let a = place i t v p x in let b = place j t w q y in let same : a.0 ≡ b.0 = some-injective a.0 b.0 (sym a.3 ∙ b.3) in
        one_owner st n i j b.0 v w (kept.each i v p) (kept.each j w q) (only b.0 v.cores (a.1 ∙ ap (λ (c : ℕ). c ∷ []) same)) (only b.0 w.cores b.1);
    one_core = λ j t v p x. let k = place j t v p x in (k.0, k.1, (kept.queued (t - length n.stays) k.0 k.3).1);
    home = home_at n.held refl kept.slot;
    holder_seen = λ j v p x. (holder_seen n v.cores v.seen v.stage (kept.each j v p).stage x).0;
    out = out_at n.held refl kept.slot;
    are_stays = kept.are_stays;
    defined = kept.defined;
    seen = λ j v p. (kept.each j v p).seen;
    told = λ j c v p x. (kept.each j v p).told c x;
    few_entries = λ c h. let a = count_steps st kept.fits n.schedule kept.defined c in omega arith;
  }
