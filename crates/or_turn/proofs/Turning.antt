-- The step `finish` keeps the rule.
use Rattle.std.proofs.Common.{◌≡◌, ◌≢◌, ℕ, suc, ◌+◌, ◌-◌, ◌^◌, ◌%◌, ◌<◌, ◌≤◌, Bool, false, List, [], ◌∷◌, ◌++◌, length, replicate, drop, set, get_or, refl, sym, ap, ◌∙◌, subst, inr, arith, Option, Some, None, length-append}
use mathlib.Core.Option.{some, none, some-injective, some-ne-none}
use mathlib.Core.Option as maybe
use lib.ListN.{get_elem?}
use Rattle.atomic_table.specs.Table.{step, gives, rest, put_back, Allows}
use Rattle.or_turn.specs.declared.view.Settings.{Settings}
use Rattle.or_model.specs.Core.{Core}
use Rattle.or_turn.specs.Schedules.{IsDefined, count}
use Rattle.or_turn.proofs.Replays.{prefix_core, count_same, count_append, count_cons}
use Rattle.or_turn.proofs.Stays.{stays_more, count_no_stay}
use Rattle.or_turn.specs.declared.view.Transfer.{Transfer}
use Rattle.or_turn.specs.declared.view.Stage.{Stage}
use Rattle.or_turn.specs.declared.view.Stage.TheVariants.{Idle, Waits, Holds, Joined, Spent}
use Rattle.or_turn.specs.declared.view.View.{View}
use Rattle.or_turn.specs.Rule.{Begins, SlotHolds, Witness, StageHolds, SeatKnows, InTurn, SlotIs, RuleHolds}
use Rattle.or_turn.specs.Told.{SeatState, done_view, finished}
use Rattle.or_turn.proofs.Counts.{begins_all, begins_more, first_drop, drop_at_suc, at_count}
use Rattle.or_turn.proofs.Seats.{has_still, each_still, live, one_owner}
use Rattle.or_turn.proofs.Waiting.{only, few_tickets}

holds_spent : (x : Stage) → x ≡ Holds → x ≡ Spent → ⊥
holds_spent x a b = cc

-- the place in the queue after the first has gone
turn_down : (n n' : Witness) (i : ℕ) (x : Stage) → length n'.stays ≡ length n.stays + 1 → InTurn n (suc i) x → InTurn n' i x
turn_down n n' i Idle e h = h
turn_down n n' i Spent e h = h
turn_down n n' i (Joined x) e h = h
turn_down n n' i Holds e h = absurd (omega arith)
turn_down n n' i (Waits t) e h = omega arith

-- a stage of a seat that does not have the first core, behind a stay of this core
stage_down : (n n' : Witness) (mine seen : List ℕ) (x : Stage) (c turns : ℕ) → n'.schedule ≡ n.schedule ++ replicate turns c → length n'.stays ≡ length n.stays + 1 → n'.queue ≡ drop 1 n.queue
    → get_elem? n.queue 0 ≡ some c → (0 < count c mine → ⊥) → StageHolds n mine seen x → StageHolds n' mine seen x
stage_down n n' mine seen Idle c turns e grown q first other k = tt
stage_down n n' mine seen Spent c turns e grown q first other k = tt
stage_down n n' mine seen Holds c turns e grown q first other k = absurd (other (only c mine (k.1 ∙ ap (λ (y : ℕ). y ∷ []) (some-injective k.0 c (sym k.3 ∙ first)))))
stage_down n n' mine seen (Joined h) c turns e grown q first other k = record {
  settings = k.settings;
  cores_are = k.cores_are;
  seen_is = k.seen_is;
  first = subst (λ (l : List ℕ). Begins h.seen l) (sym e) (begins_more h.seen n.schedule (replicate turns c) k.first);
  second = subst (λ (l : List ℕ). Begins h.other_seen l) (sym e) (begins_more h.other_seen n.schedule (replicate turns c) k.second);
  told = λ d z. k.told d z ∙ same d (let a = count_append d h.cores h.other_cores in let b : count d mine ≡ count d (h.cores ++ h.other_cores) = ap (count d) k.cores_are in omega arith);
  other_told = λ d z. k.other_told d z ∙ same d (let a = count_append d h.cores h.other_cores in let b : count d mine ≡ count d (h.cores ++ h.other_cores) = ap (count d) k.cores_are in omega arith);
}
  where
    same : (d : ℕ) → 0 < count d mine → count d n.schedule ≡ count d n'.schedule
    same d z = let apart : c ≢ d = λ y. other (subst (λ (l : ℕ). 0 < count l mine) (sym y) z) in let none = count_no_stay d c turns apart in let sum = count_append d n.schedule (replicate turns c) in
        let r : count d n.schedule ≡ count d (n.schedule ++ replicate turns c) = omega arith in r ∙ ap (count d) (sym e)
stage_down n n' mine seen (Waits t) c turns e grown q first other k =
    let low : length n.stays ≤ t = k.2 in
    let past : t ≢ length n.stays = λ z. other (only c mine (k.1 ∙ ap (λ (y : ℕ). y ∷ []) (some-injective k.0 c (sym k.3 ∙ (ap (get_elem? n.queue) (let y : t - length n.stays ≡ 0 = omega arith in y) ∙ first))))) in (
      k.0,
      k.1,
      omega arith,
      ap (λ (xs : List ℕ). get_elem? xs (t - length n'.stays)) q ∙ (drop_at_suc n.queue (t - length n'.stays) ∙ (ap (get_elem? n.queue) (let y : suc (t - length n'.stays) ≡ t - length n.stays = omega arith in y) ∙ k.3)),
    )

-- what lies in the slot that the seat took last
slot_of : List (ℕ × Option Transfer) → Option Transfer
slot_of [] = None
slot_of (x ∷ xs) = x.1

module _ (st : Settings) where
  pub finishes : (slots id : ℕ) (me : SeatState) (c turns : ℕ) (transfer : Transfer) → me.0.stage ≡ Holds → me.0.cores ≡ c ∷ [] → me.1 ≡ (0, Some transfer) ∷ [] → 1 ≤ turns
      → IsDefined (me.0.settings) (me.0.seen ++ replicate turns c) → SlotHolds (me.0.settings) (me.0.seen ++ replicate turns c) transfer
      → Allows (RuleHolds st) slots id me 1 (λ x. (x + 1) % 2 ^ 64) (finished (step slots 1 1 0 none) me)
  unfolding slot_of
  finishes slots id me c turns transfer holds one carried some_turn def slot_holds s kept _ at _ =
      let n : Witness = kept.now in let mine : SeatKnows st n id me.0 = kept.each id me.0 at in let k = subst (StageHolds n me.0.cores me.0.seen) holds mine.stage in
      let is : me.0.settings ≡ st = live st n id me.0 mine (holds_spent me.0.stage holds) in
      let xs : List ℕ = n.schedule in let seen_is : me.0.seen ≡ xs = k.2 in let ys : List ℕ = replicate turns c in
      let pair : k.0 ∷ [] ≡ c ∷ [] = sym k.1 ∙ one in let same : k.0 ≡ c = cc in
      let first : get_elem? n.queue 0 ≡ some c = k.3 ∙ ap some same in
      let has : 0 < count c me.0.cores = only c me.0.cores one in let own = mine.cores c has in let own_in = own.0 in
      let x : ℕ = get_or s.words 1 0 in let found : x ≡ length n.stays = ap (λ (ws : List ℕ). get_or ws 1 0) kept.words in
      let few = few_tickets st n kept.fits kept.are_stays kept.most kept.defined kept.others (λ i d e. (kept.queued i d e).0) kept.once in
      let stays' : List (ℕ × ℕ) = n.stays ++ (c, turns) ∷ [] in
      let grown : length stays' ≡ length n.stays + 1 = length-append n.stays ((c, turns) ∷ []) in
      let next : (x + 1) % 18446744073709551616 ≡ length stays' = omega arith in
      let queue_is : n.queue ≡ c ∷ drop 1 n.queue = first_drop n.queue c first in
      let fewer : length n.queue ≡ suc (length (drop 1 n.queue)) = ap (λ (l : List ℕ). length l) queue_is in
      let drawn : length n.stays + length n.queue ≡ length stays' + length (drop 1 n.queue) = omega arith in
      let seen_now : transfer.schedule.items ≡ xs ++ ys = slot_holds.schedule ∙ ap (λ (l : List ℕ). l ++ ys) seen_is in
      let n' : Witness = record n { schedule = xs ++ ys; stays = stays'; queue = drop 1 n.queue; held = false } in let w : View = done_view me.0 transfer.schedule.items in
      let slot = subst (λ (b : Bool). SlotIs st n b s) k.4 kept.slot in
      let def' : IsDefined st (xs ++ ys) = subst (λ (p : Settings × List ℕ). IsDefined p.0 p.1) (λ i. (is i, seen_is i ++ ys)) def in
      let sum : (d : ℕ) → count d (xs ++ ys) ≡ count d xs + count d ys = λ d. count_append d xs ys in
      let still : (d : ℕ) → c ≢ d → count d xs ≡ count d (xs ++ ys) = λ d apart. let a = sum d in let none = count_no_stay d c turns apart in omega arith in
      let counted : (d : ℕ) → count d n.queue ≡ count d (c ∷ []) + count d (drop 1 n.queue) = λ d. ap (count d) queue_is ∙ count_cons d c (drop 1 n.queue) in
      let not_first : (i d : ℕ) → get_elem? (drop 1 n.queue) i ≡ some d → c ≢ d = λ i d e z.
      let a = counted d in let b = kept.once d in let there = at_count d (drop 1 n.queue) i e in let y : count d (c ∷ []) ≡ 1 = ap (λ (l : ℕ). count d (l ∷ [])) z ∙ count_same d in omega arith in (
        w,
        gives,
        tt,
        record {
          fits = kept.fits;
          now = n';
          words = ap (λ (ws : List ℕ). set ws 1 ((x + 1) % 18446744073709551616)) kept.words ∙ (λ i. drawn i ∷ next i ∷ n.enrolled ∷ []);
          are_stays = stays_more n.stays xs c turns kept.are_stays some_turn;
          most = kept.most;
          defined = def';
          others = λ d h. sym (still d (λ z. omega arith)) ∙ kept.others d h;
          queued = λ i d e. let q = kept.queued (suc i) d (sym (drop_at_suc n.queue i) ∙ e) in
              (q.0, ap (λ (y : Core). y.stop) (sym (prefix_core st xs ys d def' (still d (not_first i d e)))) ∙ q.1);
          once = λ d. let a = counted d in let b = kept.once d in omega arith;
          owned = λ d h. has_still s.views id me.0 w at (n.owner d) (λ v. 0 < count d v.cores) (λ v. 0 < count d v.cores) (λ v y. y) (λ y. y) (kept.owned d h);
          waiting = λ i d e. has_still s.views id me.0 w at (n.owner d) (λ v. InTurn n (suc i) v.stage) (λ v. InTurn n' i v.stage) (λ v y. turn_down n n' i v.stage grown y)
              (λ y. let z : suc i ≡ 0 = subst (InTurn n (suc i)) holds y in absurd (omega arith)) (kept.waiting (suc i) d (sym (drop_at_suc n.queue i) ∙ e));
          each = each_still s.views id me.0 w at (SeatKnows st n')
              (record {
                settings = inr is;
                opening = mine.opening;
                cores = mine.cores;
                once = mine.once;
                seen = subst (λ (l : List ℕ). Begins l (xs ++ ys)) (sym seen_now) (begins_all (xs ++ ys));
                told = λ d z. ap (count d) seen_now;
                stage = tt;
              })
              (λ j v other e. let o : SeatKnows st n j v = kept.each j v e in let apart : (d : ℕ) → 0 < count d v.cores → c ≢ d = λ d z y. other (one_owner st n j id d v me.0 o mine z (subst (λ (l : ℕ). 0 < count l me.0.cores) y has)) in record {
                settings = o.settings;
                opening = o.opening;
                cores = o.cores;
                once = o.once;
                seen = begins_more v.seen xs ys o.seen;
                told = λ d z. o.told d z ∙ still d (apart d z);
                stage = stage_down n n' v.cores v.seen v.stage c turns refl grown refl first (λ z. apart c z refl) o.stage;
              });
          slot = (
            transfer,
            ap (λ (cs : List (ℕ × Option Transfer)). put_back s.homes cs) carried ∙ ap (λ (hs : List (maybe.Option (Option Transfer))). set hs 0 (some (Some transfer))) slot.0,
            subst (λ (p : Settings × List ℕ). SlotHolds p.0 p.1 transfer) (λ i. (is i, seen_is i ++ ys)) slot_holds,
          );
        },
        (ap rest carried, λ (other : Transfer) e. ap (λ (l : List ℕ). done_view me.0 l) (ap (λ (o : Transfer). o.schedule.items) (same_slot transfer other (sym carried ∙ e)))),
      )
    where
      same_slot : (a b : Transfer) → ◌≡◌ {A = List (ℕ × Option Transfer)} ((0, Some a) ∷ []) ((0, Some b) ∷ []) → a ≡ b
      same_slot a b e = let o : Some a ≡ Some b = ap slot_of e in cc
