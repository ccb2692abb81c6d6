-- The steps `draw` and `look` keep the rule.
use Rattle.std.proofs.Common.{◌≡◌, ℕ, ◌+◌, ◌-◌, ◌*◌, ◌^◌, ◌%◌, ◌<◌, ◌≤◌, Bool, true, false, List, [], ◌∷◌, ◌++◌, length, set, get_or, ◌==◌, ◌≢◌, eq-eqb, ne_eqb, refl, sym, ap, ◌∙◌, subst, inr, ⊎_elim, arith, Option, Some, None, length-append}
use mathlib.Core.Logic.{dite}
use prog.Atomic.{either}
use mathlib.Core.Option.{some, none, some-injective, some-ne-none}
use mathlib.Core.Option as maybe
use native.Mathlib.Decide.{ℕ_discrete}
use lib.ListN.{get_elem?}
use lib.Seq.{set-get_or}
use Rattle.atomic_table.specs.Table.{State, step, Act, keeps, takes, Allows, stepped, Valid, carried_after}
use Rattle.atomic_table.proofs.Lists.{at_set, set_else, at_longer, at_last}
use Rattle.or_turn.specs.declared.view.Settings.{Settings}
use Rattle.or_model.specs.Core.{Core}
use Rattle.or_turn.specs.Schedules.{IsDefined, count, core_at, board_of}
use Rattle.or_turn.proofs.Replays.{count_same, count_other, count_append}
use Rattle.or_turn.proofs.Lengths.{AllBelow, length_most}
use Rattle.or_turn.proofs.Steps.{entries_below, count_budget, count_running}
use Rattle.or_turn.proofs.Stays.{few_stays}
use Rattle.or_turn.specs.declared.view.Transfer.{Transfer}
use Rattle.or_turn.specs.declared.view.Stage.{Stage}
use Rattle.or_turn.specs.declared.view.Stage.TheVariants.{Idle, Waits, Holds, Joined, Spent}
use Rattle.or_turn.specs.declared.view.View.{View}
use Rattle.or_turn.specs.Rule.{SlotHolds, Witness, StageHolds, AreStays, AreJoined, SeatKnows, InTurn, IsHolder, Has, SlotIs, RuleHolds}
use Rattle.or_words.specs.Settings.{Fits}
use Rattle.or_turn.specs.Told.{SeatState, TakesBus, waiting_view, holding_view, drew, looked, ticket}
use Rattle.or_turn.proofs.Counts.{begins_all, count_snoc, count_one, count_one_most, count_at, snoc_at, below_at, below_counts, below_append, below_weaken, core_told}
use Rattle.or_turn.proofs.Seats.{has_me, has_still, each_still, live, stage_longer, slot_still, same_at, one_owner}
use Rattle.or_turn.proofs.Opening.{not_spent, idle_waits, idle_holds, stage_same}

-- the only core of a view stands in it
pub only : (c : ℕ) (mine : List ℕ) → mine ≡ c ∷ [] → 0 < count c mine
only c mine e = let one : count c mine ≡ 1 = ap (count c) e ∙ count_same c in omega arith

-- the tickets drawn are few
pub few_tickets : (st : Settings) (n : Witness) → Fits st.config → AreStays n.stays n.schedule → n.enrolled ≤ st.config.cores → IsDefined st n.schedule → ((c : ℕ) → n.enrolled ≤ c → count c n.schedule ≡ 0)
    → ((i c : ℕ) → get_elem? n.queue i ≡ some c → c < n.enrolled) → ((c : ℕ) → count c n.queue ≤ 1) → length n.stays + length n.queue ≤ 536870920
few_tickets st n fits stays most defined others queued once =
    let xs : List ℕ = n.schedule ++ n.queue in
    let below : AllBelow st.config.cores xs = below_append st.config.cores n.schedule n.queue (below_weaken n.enrolled st.config.cores n.schedule most (below_counts n.enrolled n.schedule others)) (below_weaken n.enrolled st.config.cores n.queue most (below_at n.enrolled n.queue queued)) in
    let short = length_most st.config.cores (st.config.budget + 1) xs below (λ c h. let a = count_budget st fits n.schedule defined c h in let b = once c in let e = count_append c n.schedule n.queue in omega arith) in
    let sum = length-append n.schedule n.queue in let few = fits.few_cores in let steps = fits.few_steps in
    let top : st.config.cores * (st.config.budget + 1) ≤ 8 * 67108865 = grind arith in let fewer = few_stays n.stays n.schedule stays in omega arith

-- a core that runs has a turn left, so the schedule is not full
pub left_over : (st : Settings) (fits : Fits st.config) (xs : List ℕ) → IsDefined st xs → (c : ℕ) → c < st.config.cores → (core_at (board_of st xs).cores c).stop ≡ None → length xs < st.config.cores * st.config.budget
left_over st fits xs defined c h runs =
    let below : AllBelow st.config.cores (xs ++ c ∷ []) = below_append st.config.cores xs (c ∷ []) (entries_below st fits xs defined) (h, tt) in
    let short = length_most st.config.cores st.config.budget (xs ++ c ∷ []) below (λ d z. let sum = count_snoc d c xs in dite (ℕ_discrete c d)
    (λ e. let few : count d xs < st.config.budget = subst (λ (y : ℕ). count y xs < st.config.budget) e (count_running st fits xs defined c h runs) in let l = count_one_most d c in omega arith)
    (λ other. let none : count d (c ∷ []) ≡ 0 = count_other d c other in let few = count_budget st fits xs defined d z in omega arith)) in
    let sum = length-append xs (c ∷ []) in omega arith

waits_spent : (t : ℕ) (x : Stage) → x ≡ Waits t → x ≡ Spent → ⊥
waits_spent t x a b = cc

still_turn : (n n' : Witness) (i : ℕ) (x : Stage) → n'.stays ≡ n.stays → InTurn n i x → InTurn n' i x
still_turn n n' i Idle e h = h
still_turn n n' i Spent e h = h
still_turn n n' i (Joined x) e h = h
still_turn n n' i Holds e h = h
still_turn n n' i (Waits t) e h = h ∙ ap (λ (xs : List (ℕ × ℕ)). length xs + i) (sym e)

stage_held : (n n' : Witness) (mine seen : List ℕ) (x : Stage) → n'.schedule ≡ n.schedule → n'.stays ≡ n.stays → n'.queue ≡ n.queue → n'.held ≡ true → StageHolds n mine seen x → StageHolds n' mine seen x
stage_held n n' mine seen Idle s z q h k = tt
stage_held n n' mine seen Spent s z q h k = tt
stage_held n n' mine seen (Joined x) s z q h k = subst (λ (xs : List ℕ). AreJoined xs mine seen x) (sym s) k
stage_held n n' mine seen (Waits t) s z q h k = stage_same n (record n' { held = n.held }) mine seen (Waits t) s z q refl k
stage_held n n' mine seen Holds s z q h k = (k.0, k.1, k.2 ∙ sym s, ap (λ (xs : List ℕ). get_elem? xs 0) q ∙ k.3, h)

module _ (st : Settings) where
  pub draws : (slots id : ℕ) (me : SeatState) (old new c : ℕ) → new ≡ (old + 1) % 2 ^ 64 → me.0.stage ≡ Idle → me.0.cores ≡ c ∷ [] → (core_at (board_of (me.0.settings) me.0.seen).cores c).stop ≡ None
      → Allows (RuleHolds st) slots id me 0 (λ n. either (n == old) new n) (drew (step slots 0 old new none) me)
  draws slots id me old new c plus idle one runs s kept _ at _ = dite (ℕ_discrete (get_or s.words 0 0) old) (λ same. hit same (either (get_or s.words 0 0 == old) new (get_or s.words 0 0)) (is_new (get_or s.words 0 0) same)) (λ other.
      let x : ℕ = get_or s.words 0 0 in
      let stays : set s.words 0 (either (x == old) new x) ≡ s.words = ap (set s.words 0) (is_old x other) ∙ set-get_or s.words 0 0 in (
        me.0,
        keeps,
        tt,
        subst (λ (p : List ℕ × List View). RuleHolds st record { words = p.0; homes = s.homes; views = p.1 }) (λ i. (sym stays i, sym (Rattle.atomic_table.proofs.Lists.set_again s.views id me.0 at) i)) kept,
        ((λ e. absurd (other e)), λ _. refl),
      ))
    where
      is_new : (x : ℕ) → x ≡ old → either (x == old) new x ≡ new
      is_new x e = rw (eq-eqb x old e) refl

      is_old : (x : ℕ) → x ≢ old → either (x == old) new x ≡ x
      is_old x e = rw (ne_eqb x old e) refl

      in_turn : (n n' : Witness) (i : ℕ) (x : Stage) → n'.stays ≡ n.stays → InTurn n i x → InTurn n' i x
      in_turn n n' i Idle e h = h
      in_turn n n' i Spent e h = h
      in_turn n n' i (Joined x) e h = h
      in_turn n n' i Holds e h = h
      in_turn n n' i (Waits t) e h = h ∙ ap (λ (xs : List (ℕ × ℕ)). length xs + i) (sym e)

      hit : get_or s.words 0 0 ≡ old → (y : ℕ) → y ≡ new → (w : View) × (a : Act (Option Transfer)) × Valid s.homes me.1 a × RuleHolds st (stepped s 0 y id me.1 w a) × drew (step slots 0 old new none) me (get_or s.words 0 0) (w, carried_after me.1 a)
      hit same y y_is =
          let n : Witness = kept.now in let mine : SeatKnows st n id me.0 = kept.each id me.0 at in
          let is : me.0.settings ≡ st = live st n id me.0 mine (not_spent me.0 idle) in
          let has : 0 < count c me.0.cores = only c me.0.cores one in let own = mine.cores c has in let own_in = own.0 in let own_at = own.1 in
          let x : ℕ = get_or s.words 0 0 in let found : x ≡ length n.stays + length n.queue = ap (λ (ws : List ℕ). get_or ws 0 0) kept.words in
          let few = few_tickets st n kept.fits kept.are_stays kept.most kept.defined kept.others (λ i d e. (kept.queued i d e).0) kept.once in
          let grown : length (n.queue ++ c ∷ []) ≡ length n.queue + 1 = length-append n.queue (c ∷ []) in
          let next : y ≡ length n.stays + length (n.queue ++ c ∷ []) = omega arith in
          let n' : Witness = record n { queue = n.queue ++ c ∷ [] } in let w : View = waiting_view me.0 x in
          let absent : (i : ℕ) → get_elem? n.queue i ≡ some c → ⊥ = λ i e. let h = kept.waiting i c e in
          idle_waits n i h.0.stage (ap (λ (v : View). v.stage) (sym (same_at s.views id (n.owner c) me.0 h.0 at h.1 (sym own_at))) ∙ idle) h.2 in
          let runs' : (core_at (board_of st n.schedule).cores c).stop ≡ None =
          ap (λ (k : Core). k.stop) (sym (core_told st me.0.seen n.schedule c kept.defined mine.seen (mine.told c has))) ∙ (ap (λ (z : Settings). (core_at (board_of z me.0.seen).cores c).stop) (sym is) ∙ runs) in (
            w,
            keeps,
            tt,
            record {
              fits = kept.fits;
              now = n';
              words = ap (λ (ws : List ℕ). set ws 0 (y)) kept.words ∙ ap (λ (y : ℕ). y ∷ length n.stays ∷ n.enrolled ∷ []) next;
              are_stays = kept.are_stays;
              most = kept.most;
              defined = kept.defined;
              others = kept.others;
              queued = λ i d e. ⊎_elim (λ (t : get_elem? n.queue i ≡ some d). kept.queued i d t)
                  (λ (t : (i ≡ length n.queue) × (c ≡ d)). subst (λ (z : ℕ). (z < n.enrolled) × ((core_at (board_of st n.schedule).cores z).stop ≡ None)) t.1 (own_in, runs')) (snoc_at n.queue c i d e);
              once = λ d. let sum = count_snoc d c n.queue in dite (ℕ_discrete c d)
                  (λ e. let none : count d n.queue ≡ 0 = dite (ℕ_discrete (count d n.queue) 0) (λ z. z) (λ z. let p = count_at d n.queue (omega arith) in absurd (absent p.0 (p.1 ∙ ap some (sym e)))) in let l = count_one_most d c in omega arith)
                  (λ other. let none : count d (c ∷ []) ≡ 0 = count_other d c other in let l = kept.once d in omega arith);
              owned = λ d h. has_still s.views id me.0 w at (n.owner d) (λ v. 0 < count d v.cores) (λ v. 0 < count d v.cores) (λ v z. z) (λ z. z) (kept.owned d h);
              waiting = λ i d e. ⊎_elim
                  (λ (t : get_elem? n.queue i ≡ some d). has_still s.views id me.0 w at (n.owner d) (λ v. InTurn n i v.stage) (λ v. InTurn n' i v.stage) (λ v z. in_turn n n' i v.stage refl z) (λ z. absurd (idle_waits n i me.0.stage idle z)) (kept.waiting i d t))
                  (λ (t : (i ≡ length n.queue) × (c ≡ d)). subst (λ (j : ℕ). Has (set s.views id w) j (λ v. InTurn n' i v.stage)) (sym own_at ∙ ap n.owner t.1)
                  (has_me s.views id me.0 w at (λ v. InTurn n' i v.stage) (let l = t.0 in let z : x ≡ length n.stays + i = omega arith in z)))
                  (snoc_at n.queue c i d e);
              each = each_still s.views id me.0 w at (SeatKnows st n')
                  (record {
                    settings = inr is;
                    opening = mine.opening;
                    cores = mine.cores;
                    once = mine.once;
                    seen = mine.seen;
                    told = mine.told;
                    stage = (c, one, omega arith, at_last n.queue c (x - length n.stays) (omega arith));
                  })
                  (λ j v other e. let o = kept.each j v e in record {
                    settings = o.settings;
                    opening = o.opening;
                    cores = o.cores;
                    once = o.once;
                    seen = o.seen;
                    told = o.told;
                    stage = stage_longer n n' (c ∷ []) v.cores v.seen v.stage refl refl refl refl o.stage;
                  });
              slot = slot_still st n n' n.held s record { words = set s.words 0 (y); homes = s.homes; views = set s.views id w } refl refl
                  (λ j h. (j, has_still s.views id me.0 w at j (λ v. IsHolder v.stage) (λ v. IsHolder v.stage) (λ v z. z) (λ z. absurd (idle_holds me.0.stage idle z)) h)) kept.slot;
            },
            ((λ _. (refl, refl)), λ no. absurd (no same)),
          )

  pub looks : (slots id : ℕ) (me : SeatState) (t : ℕ) → me.0.stage ≡ Waits t → me.1 ≡ [] → Allows (RuleHolds st) slots id me 1 (λ x. x) (looked (step slots 1 0 0 none) me)
  looks slots id me t waits bare s kept _ at _ =
      let n : Witness = kept.now in let mine : SeatKnows st n id me.0 = kept.each id me.0 at in
      let x : ℕ = get_or s.words 1 0 in let found : x ≡ length n.stays = ap (λ (ws : List ℕ). get_or ws 1 0) kept.words in
      let stays : set s.words 1 x ≡ s.words = set-get_or s.words 1 0 in
      let ticket_is : ticket me.0.stage ≡ t = ap ticket waits in
      dite (ℕ_discrete x t) (λ hit. take s kept at x found stays ticket_is hit n.held refl kept.slot) (λ miss. (
        me.0,
        keeps,
        tt,
        subst (λ (p : List ℕ × List View). RuleHolds st record { words = p.0; homes = s.homes; views = p.1 }) (λ i. (sym stays i, sym (Rattle.atomic_table.proofs.Lists.set_again s.views id me.0 at) i)) kept,
        ((λ e. absurd (miss (e ∙ ticket_is))), λ _. refl),
      ))
    where
      take : (s : State (Option Transfer) View) (kept : RuleHolds st s) → get_elem? s.views id ≡ some me.0 → (x : ℕ) → x ≡ length kept.now.stays → set s.words 1 x ≡ s.words → ticket me.0.stage ≡ t → x ≡ t
          → (b : Bool) → kept.now.held ≡ b → SlotIs st kept.now b s
          → (w : View) × (a : Act (Option Transfer)) × Valid s.homes me.1 a × RuleHolds st (stepped s 1 x id me.1 w a) × looked (step slots 1 0 0 none) me x (w, carried_after me.1 a)
      take s kept at x found stays ticket_is hit true h slot =
          let n : Witness = kept.now in let mine : SeatKnows st n id me.0 = kept.each id me.0 at in let k = subst (StageHolds n me.0.cores me.0.seen) waits mine.stage in let c : ℕ = k.0 in
          let first : get_elem? n.queue 0 ≡ some c = ap (get_elem? n.queue) (let z : 0 ≡ t - length n.stays = omega arith in z) ∙ k.3 in
          absurd (alone s kept at c k.1 first slot.1.0 slot.1.1)
        where
          alone : (s : State (Option Transfer) View) (kept : RuleHolds st s) → get_elem? s.views id ≡ some me.0 → (c : ℕ) → me.0.cores ≡ c ∷ [] → get_elem? kept.now.queue 0 ≡ some c → (j : ℕ) → Has s.views j (λ v. IsHolder v.stage) → ⊥
          alone s kept at c one first j h =
              let o : SeatKnows st kept.now j h.0 = kept.each j h.0 h.1 in let mine = kept.each id me.0 at in
              holder h.0.stage h.2 o.stage (λ c' one' first'. let same : c' ≡ c = some-injective c' c (sym first' ∙ first) in
              let e : j ≡ id = one_owner st kept.now j id c h.0 me.0 o mine (only c h.0.cores (one' ∙ ap (λ (z : ℕ). z ∷ []) same)) (only c me.0.cores one) in
              let v : h.0 ≡ me.0 = same_at s.views j id h.0 me.0 h.1 at e in
              subst IsHolder (ap (λ (z : View). z.stage) v ∙ waits) h.2)
            where
              holder : (z : Stage) → IsHolder z → StageHolds kept.now h.0.cores h.0.seen z → ((c' : ℕ) → h.0.cores ≡ c' ∷ [] → get_elem? kept.now.queue 0 ≡ some c' → ⊥) → ⊥
              holder Holds y k go = go k.0 k.1 k.3
              holder Idle y k go = y
              holder (Waits _) y k go = y
              holder Spent y k go = y
              holder (Joined _) y k go = y
      take s kept at x found stays ticket_is hit false h slot =
          let n : Witness = kept.now in let mine : SeatKnows st n id me.0 = kept.each id me.0 at in let k = subst (StageHolds n me.0.cores me.0.seen) waits mine.stage in let c : ℕ = k.0 in
          let first : get_elem? n.queue 0 ≡ some c = ap (get_elem? n.queue) (let z : 0 ≡ t - length n.stays = omega arith in z) ∙ k.3 in
          let is : me.0.settings ≡ st = live st n id me.0 mine (λ e. waits_spent t me.0.stage waits e) in
          let transfer : Transfer = slot.0 in let xs : List ℕ = n.schedule in let w : View = holding_view me.0 xs in let n' : Witness = record n { held = true } in
          let has : 0 < count c me.0.cores = only c me.0.cores k.1 in let own = mine.cores c has in let own_in = own.0 in let most = kept.most in let q = kept.queued 0 c first in
          let homes' : List (maybe.Option (Option Transfer)) = set s.homes 0 none in let out : homes' ≡ none ∷ [] = ap (λ (hs : List (maybe.Option (Option Transfer))). set hs 0 none) slot.1 in (
            w,
            takes 0 (Some transfer),
            ap (λ (hs : List (maybe.Option (Option Transfer))). get_elem? hs 0) slot.1,
            record {
              fits = kept.fits;
              now = n';
              words = stays ∙ kept.words;
              are_stays = kept.are_stays;
              most = kept.most;
              defined = kept.defined;
              others = kept.others;
              queued = kept.queued;
              once = kept.once;
              owned = λ d z. has_still s.views id me.0 w at (n.owner d) (λ v. 0 < count d v.cores) (λ v. 0 < count d v.cores) (λ v y. y) (λ y. y) (kept.owned d z);
              waiting = λ i d e. has_still s.views id me.0 w at (n.owner d) (λ v. InTurn n i v.stage) (λ v. InTurn n' i v.stage) (λ v y. still_turn n n' i v.stage refl y)
                  (λ y. let a : t ≡ length n.stays + i = subst (InTurn n i) waits y in omega arith) (kept.waiting i d e);
              each = each_still s.views id me.0 w at (SeatKnows st n')
                  (record {
                    settings = inr is;
                    opening = mine.opening;
                    cores = mine.cores;
                    once = mine.once;
                    seen = begins_all xs;
                    told = λ d z. refl;
                    stage = (c, k.1, refl, first, refl);
                  })
                  (λ j v other e. let o = kept.each j v e in record {
                    settings = o.settings;
                    opening = o.opening;
                    cores = o.cores;
                    once = o.once;
                    seen = o.seen;
                    told = o.told;
                    stage = stage_held n n' v.cores v.seen v.stage refl refl refl refl o.stage;
                  });
              slot = (out, (id, has_me s.views id me.0 w at (λ v. IsHolder v.stage) tt));
            },
            (
              (λ e. record {
                schedule = xs;
                transfer = transfer;
                slots = ap (λ (cs : List (ℕ × Option Transfer)). (0, Some transfer) ∷ cs) bare;
                view = refl;
                fits = subst (λ (z : Settings). Fits z.config) (sym is) kept.fits;
                begins = mine.seen;
                defined = subst (λ (z : Settings). IsDefined z xs) (sym is) kept.defined;
                holds = subst (λ (z : Settings). SlotHolds z xs transfer) (sym is) slot.2;
                left = subst (λ (z : Settings). length xs < z.config.cores * z.config.budget) (sym is) (left_over st kept.fits xs kept.defined c (omega arith) q.1);
                told = λ d z. let same : c ≡ d = count_one d c (subst (λ (l : List ℕ). 0 < count d l) k.1 z) in (
                  subst (λ (y : Settings). d < y.config.cores) (sym is) (omega arith),
                  mine.told d z,
                  subst (λ (y : Settings). (core_at (board_of y xs).cores d).stop ≡ None) (sym is) (ap (λ (y : ℕ). (core_at (board_of st xs).cores y).stop) (sym same) ∙ q.1),
                );
              }),
              λ no. absurd (no (hit ∙ sym ticket_is)),
            ),
          )

-- who took the bus with a ticket took it
pub took_waiting : (v w : View) (t : ℕ) (m : SeatState) → w ≡ waiting_view v t → TakesBus w m → TakesBus v m
took_waiting v w t m e tk = let k = subst (λ (x : View). TakesBus x m) e tk in record {
  schedule = k.schedule;
  transfer = k.transfer;
  slots = k.slots;
  view = k.view;
  fits = k.fits;
  begins = k.begins;
  defined = k.defined;
  holds = k.holds;
  left = k.left;
  told = k.told;
}
