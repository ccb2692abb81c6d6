-- The opening, and the steps `enrol` and `split`, keep the rule.
use Rattle.std.proofs.Common.{◌≡◌, ◌⊎◌, ℕ, zero, suc, ◌+◌, ◌-◌, ◌^◌, ◌%◌, ◌<◌, false, List, [], ◌∷◌, ◌++◌, length, set, get_or, refl, sym, ap, ◌∙◌, subst, inl, inr, ⊎_elim, arith, Option, Some, None}
use mathlib.Core.Logic.{dite}
use mathlib.Core.Option.{some, none, some-injective, some-ne-none}
use native.Mathlib.Decide.{ℕ_discrete}
use lib.ListN.{get_elem?}
use Rattle.atomic_table.specs.Table.{step, keeps, Allows, Splits, opening}
use Rattle.atomic_table.proofs.Lists.{at_longer}
use Rattle.or_turn.specs.declared.view.Settings.{Settings}
use Rattle.or_turn.specs.Schedules.{count}
use Rattle.or_turn.proofs.Replays.{defined_none, count_none}
use Rattle.or_turn.specs.declared.view.Transfer.{Transfer}
use Rattle.or_turn.specs.declared.view.OpenedWith.{OpenedWith}
use Rattle.or_turn.specs.declared.view.Stage.{Stage}
use Rattle.or_turn.specs.declared.view.Stage.TheVariants.{Idle, Waits, Holds, Joined, Spent}
use Rattle.or_turn.specs.declared.view.View.{View}
use Rattle.or_turn.specs.Rule.{settings_of, first_view, SlotHolds, Witness, StageHolds, AreJoined, SeatKnows, InTurn, IsHolder, Has, RuleHolds, Turns}
use Rattle.or_words.specs.Settings.{Fits}
use Rattle.or_turn.specs.Told.{SeatState, enrolled_view, enrolled, closed_view, next_view}
use Rattle.or_turn.proofs.Counts.{count_begins, count_one, count_one_most, count_zero}
use Rattle.or_turn.proofs.Seats.{put, put_here, put_else, has_me, has_still, each_still, live, slot_still}

-- before any step
pub starts : (k : OpenedWith) (transfer : Transfer) → Fits (settings_of k).config → SlotHolds (settings_of k) [] transfer → Turns k (opening (0 ∷ 0 ∷ 0 ∷ []) (Some transfer ∷ []) (first_view k))
starts k transfer fits slot_holds = let n : Witness = record { schedule = []; stays = []; queue = []; enrolled = 0; owner = λ _. 0; opener = 0; held = false } in record {
  fits = fits;
  now = n;
  words = refl;
  are_stays = record { some_turn = λ i d h. absurd (omega arith); turns = refl };
  most = omega arith;
  defined = defined_none (settings_of k);
  others = λ c h. count_none c;
  queued = λ i c e. absurd (some-ne-none c (sym e));
  once = λ c. let e = count_none c in omega arith;
  owned = λ c h. absurd (omega arith);
  waiting = λ i c e. absurd (some-ne-none c (sym e));
  each = first;
  slot = (transfer, refl, slot_holds);
}
  where
    first : (j : ℕ) (v : View) → get_elem? (first_view k ∷ []) j ≡ some v → SeatKnows (settings_of k) (record { schedule = []; stays = []; queue = []; enrolled = 0; owner = λ _. 0; opener = 0; held = false }) j v
    first zero v e = subst (SeatKnows (settings_of k) (record { schedule = []; stays = []; queue = []; enrolled = 0; owner = λ _. 0; opener = 0; held = false }) 0) (some-injective (first_view k) v e) (record {
      settings = inr refl;
      opening = λ i o. (refl, let z : 0 ≡ i = cc in sym z);
      cores = λ c h. absurd (count_zero c h);
      once = λ c. let z = count_none c in omega arith;
      seen = ([], refl);
      told = λ c h. absurd (count_zero c h);
      stage = tt;
    })
    first (suc j) v e = absurd (some-ne-none v (sym e))

pub not_spent : (v : View) → v.stage ≡ Idle → v.stage ≡ Spent → ⊥
not_spent v a b = cc

-- an idle stage is in order, whatever there is
pub idle_ok : (n : Witness) (mine seen : List ℕ) (x : Stage) → x ≡ Idle → StageHolds n mine seen x
idle_ok n mine seen x e = subst (StageHolds n mine seen) (sym e) tt

pub idle_waits : (n : Witness) (i : ℕ) (x : Stage) → x ≡ Idle → InTurn n i x → ⊥
idle_waits n i x e = subst (λ (y : Stage). InTurn n i y → ⊥) (sym e) (λ h. h)

pub idle_holds : (x : Stage) → x ≡ Idle → IsHolder x → ⊥
idle_holds x e = subst (λ (y : Stage). IsHolder y → ⊥) (sym e) (λ h. h)

-- a stage that depends on the parts of the moment that are the same
pub stage_same : (n n' : Witness) (mine seen : List ℕ) (x : Stage) → n'.schedule ≡ n.schedule → n'.stays ≡ n.stays → n'.queue ≡ n.queue → n'.held ≡ n.held → StageHolds n mine seen x → StageHolds n' mine seen x
stage_same n n' mine seen Idle s z q h k = tt
stage_same n n' mine seen Spent s z q h k = tt
stage_same n n' mine seen (Joined x) s z q h k = subst (λ (xs : List ℕ). AreJoined xs mine seen x) (sym s) k
stage_same n n' mine seen (Waits t) s z q h k = let l : length n'.stays ≡ length n.stays = ap (λ (xs : List (ℕ × ℕ)). length xs) z in
    (k.0, k.1, (let a = k.2 in omega arith), ap (λ (xs : List ℕ). get_elem? xs (t - length n'.stays)) q ∙ (ap (λ (i : ℕ). get_elem? n.queue (t - i)) l ∙ k.3))
stage_same n n' mine seen Holds s z q h k = (k.0, k.1, k.2 ∙ sym s, ap (λ (xs : List ℕ). get_elem? xs 0) q ∙ k.3, h ∙ k.4)

module _ (st : Settings) where
  pub enrols : (slots id : ℕ) (me : SeatState) (k : ℕ) → me.0.stage ≡ Idle → me.0.cores ≡ [] → me.0.opening ≡ Some k → k < me.0.settings.config.cores
      → Allows (RuleHolds st) slots id me 2 (λ x. (x + 1) % 2 ^ 64) (enrolled (step slots 2 1 0 none) me)
  enrols slots id me k idle empty mark few s kept _ at _ =
      let n : Witness = kept.now in let mine : SeatKnows st n id me.0 = kept.each id me.0 at in let o = mine.opening k mark in let at_opener = o.0 in let same_count = o.1 in
      let is : me.0.settings ≡ st = live st n id me.0 mine (not_spent me.0 idle) in let as_many : me.0.settings.config.cores ≡ st.config.cores = ap (λ (x : Settings). x.config.cores) is in
      let x : ℕ = get_or s.words 2 0 in let found : x ≡ n.enrolled = ap (λ (ws : List ℕ). get_or ws 2 0) kept.words in
      let eight = kept.fits.few_cores in let most = kept.most in
      let next : (x + 1) % 18446744073709551616 ≡ n.enrolled + 1 = omega arith in
      let n' : Witness = record n { enrolled = n.enrolled + 1; owner = put n.owner n.enrolled id } in let w : View = enrolled_view me.0 x in (
        w,
        keeps,
        tt,
        record {
          fits = kept.fits;
          now = n';
          words = ap (λ (ws : List ℕ). set ws 2 ((x + 1) % 18446744073709551616)) kept.words ∙ ap (λ (y : ℕ). (length n.stays + length n.queue) ∷ length n.stays ∷ y ∷ []) next;
          are_stays = kept.are_stays;
          most = omega arith;
          defined = kept.defined;
          others = λ c h. kept.others c (omega arith);
          queued = λ i c e. let q = kept.queued i c e in ((let l = q.0 in omega arith), q.1);
          once = kept.once;
          owned = λ c h. dite (ℕ_discrete c n.enrolled)
              (λ e. subst (λ (j : ℕ). Has (set s.views id w) j (λ v. 0 < count c v.cores)) (sym (ap (put n.owner n.enrolled id) e ∙ put_here n.owner n.enrolled id))
              (has_me s.views id me.0 w at (λ v. 0 < count c v.cores) (let one : count c (x ∷ []) ≡ 1 = ap (λ (y : ℕ). count c (y ∷ [])) (found ∙ sym e) ∙ Rattle.or_turn.proofs.Replays.count_same c in omega arith)))
              (λ other. subst (λ (j : ℕ). Has (set s.views id w) j (λ v. 0 < count c v.cores)) (sym (put_else n.owner n.enrolled id c other))
              (has_still s.views id me.0 w at (n.owner c) (λ v. 0 < count c v.cores) (λ v. 0 < count c v.cores) (λ v h. h) (λ h. absurd (count_zero c (subst (λ (xs : List ℕ). 0 < count c xs) empty h))) (kept.owned c (omega arith))));
          waiting = λ i c e. let q = (kept.queued i c e).0 in subst (λ (j : ℕ). Has (set s.views id w) j (λ v. InTurn n' i v.stage)) (sym (put_else n.owner n.enrolled id c (λ z. omega arith)))
              (has_still s.views id me.0 w at (n.owner c) (λ v. InTurn n i v.stage) (λ v. InTurn n' i v.stage) (λ v h. turn_same n n' i v.stage refl h) (λ h. absurd (idle_waits n i me.0.stage idle h)) (kept.waiting i c e));
          each = each_still s.views id me.0 w at (SeatKnows st n')
              (record {
                settings = inr is;
                opening = λ i e. (at_opener, let z : x + 1 ≡ i = cc in omega arith);
                cores = λ c h. let e = count_one c x h in ((let z = found in omega arith), ap (put n.owner n.enrolled id) (sym e ∙ found) ∙ put_here n.owner n.enrolled id);
                once = λ c. count_one_most c x;
                seen = mine.seen;
                told = λ c h. let e = count_one c x h in let none = kept.others c (let z = found in omega arith) in let few = count_begins c me.0.seen n.schedule mine.seen in omega arith;
                stage = idle_ok n' w.cores w.seen w.stage idle;
              })
              (λ j v other e. let o = kept.each j v e in record {
                settings = o.settings;
                opening = λ i m. absurd (other ((o.opening i m).0 ∙ sym at_opener));
                cores = λ c h. let m = o.cores c h in ((let l = m.0 in omega arith), put_else n.owner n.enrolled id c (λ z. let l = m.0 in omega arith) ∙ m.1);
                once = o.once;
                seen = o.seen;
                told = o.told;
                stage = stage_same n n' v.cores v.seen v.stage refl refl refl refl o.stage;
              });
          slot = slot_still st n n' n.held s record { words = set s.words 2 ((x + 1) % 18446744073709551616); homes = s.homes; views = set s.views id w } refl refl
              (λ j h. (j, has_still s.views id me.0 w at j (λ v. IsHolder v.stage) (λ v. IsHolder v.stage) (λ v z. z) (λ z. z) h)) kept.slot;
        },
        (refl, refl, mark ∙ (let z : k ≡ x = omega arith in ap (λ (y : ℕ). let r : Option ℕ = Some y in r) z)),
      )
    where
      turn_same : (n n' : Witness) (i : ℕ) (x : Stage) → n'.stays ≡ n.stays → InTurn n i x → InTurn n' i x
      turn_same n n' i Idle e h = h
      turn_same n n' i Spent e h = h
      turn_same n n' i (Joined x) e h = h
      turn_same n n' i Holds e h = h
      turn_same n n' i (Waits t) e h = h ∙ ap (λ (xs : List (ℕ × ℕ)). length xs + i) (sym e)

  pub splits : (id : ℕ) (v : View) (k : ℕ) → v.opening ≡ Some k → (v.stage ≡ Idle) → Splits (RuleHolds st) id v (closed_view v) (next_view v)
  splits id v k mark idle s kept at =
      let n : Witness = kept.now in let mine : SeatKnows st n id v = kept.each id v at in let o = mine.opening k mark in let at_opener = o.0 in let same_count = o.1 in
      let is : v.settings ≡ st = live st n id v mine (not_spent v idle) in
      let w : View = closed_view v in let new : View = next_view v in let vs : List View = set s.views id w in
      let n' : Witness = record n { opener = length vs } in record {
        fits = kept.fits;
        now = n';
        words = kept.words;
        are_stays = kept.are_stays;
        most = kept.most;
        defined = kept.defined;
        others = kept.others;
        queued = kept.queued;
        once = kept.once;
        owned = λ c h. more (n.owner c) (λ x. 0 < count c x.cores) (has_still s.views id v w at (n.owner c) (λ x. 0 < count c x.cores) (λ x. 0 < count c x.cores) (λ x z. z) (λ z. z) (kept.owned c h));
        waiting = λ i c e. more (n.owner c) (λ x. InTurn n' i x.stage) (has_still s.views id v w at (n.owner c) (λ x. InTurn n i x.stage) (λ x. InTurn n' i x.stage) (λ x z. z) (λ z. z) (kept.waiting i c e));
        each = λ j x e. ⊎_elim
            (λ (t : get_elem? vs j ≡ some x). each_still s.views id v w at (λ i y. (i < length vs) → SeatKnows st n' i y)
            (λ l. record {
              settings = inr is;
              opening = λ i m. absurd (let z : None ≡ Some i = m in cc);
              cores = mine.cores;
              once = mine.once;
              seen = mine.seen;
              told = mine.told;
              stage = idle_ok n' w.cores w.seen w.stage idle;
            })
            (λ i y other e l. let o = kept.each i y e in record {
              settings = o.settings;
              opening = λ k m. absurd (other ((o.opening k m).0 ∙ sym at_opener));
              cores = o.cores;
              once = o.once;
              seen = o.seen;
              told = o.told;
              stage = stage_same n n' y.cores y.seen y.stage refl refl refl refl o.stage;
            })
            j x t (at_lt vs j x t))
            (λ (t : (j ≡ length vs) × (new ≡ x)). subst (λ (p : ℕ × View). SeatKnows st n' p.0 p.1) (λ i. (sym t.0 i, t.1 i)) (record {
              settings = inr is;
              opening = λ i m. (refl, (mine.opening i m).1);
              cores = λ c h. absurd (count_zero c h);
              once = λ c. let z = count_none c in omega arith;
              seen = (n.schedule, refl);
              told = λ c h. absurd (count_zero c h);
              stage = tt;
            }))
            (snoc_where vs new j x e);
        slot = slot_still st n n' n.held s record { words = s.words; homes = s.homes; views = vs ++ new ∷ [] } refl refl
            (λ j h. (j, more j (λ x. IsHolder x.stage) (has_still s.views id v w at j (λ x. IsHolder x.stage) (λ x. IsHolder x.stage) (λ x z. z) (λ z. z) h))) kept.slot;
      }
    where
      more : (j : ℕ) (P : View → Type 0) → Has (set s.views id (closed_view v)) j P → Has (set s.views id (closed_view v) ++ next_view v ∷ []) j P
      more j P h = (h.0, at_longer (set s.views id (closed_view v)) (next_view v ∷ []) j h.0 h.1, h.2)

      at_lt : (l : List View) (i : ℕ) (a : View) → get_elem? l i ≡ some a → i < length l
      at_lt [] i a e = absurd (some-ne-none a (sym e))
      at_lt (y ∷ ys) zero a e = omega arith
      at_lt (y ∷ ys) (suc i) a e = let h = at_lt ys i a e in omega arith

      snoc_where : (l : List View) (a : View) (i : ℕ) (b : View) → get_elem? (l ++ a ∷ []) i ≡ some b → (get_elem? l i ≡ some b) ⊎ ((i ≡ length l) × (a ≡ b))
      snoc_where [] a zero b e = inr (refl, some-injective a b e)
      snoc_where [] a (suc i) b e = absurd (some-ne-none b (sym e))
      snoc_where (y ∷ ys) a zero b e = inl e
      snoc_where (y ∷ ys) a (suc i) b e = ⊎_elim (λ (t : get_elem? ys i ≡ some b). inl t) (λ (t : (i ≡ length ys) × (a ≡ b)). inr (ap suc t.0, t.1)) (snoc_where ys a i b e)
