-- The step `join`, the look behind it, and the end.
use Rattle.std.proofs.Common.{◌≡◌, ◌≢◌, ℕ, ◌+◌, ◌<◌, ◌≤◌, Bool, true, false, cond, leb, List, [], ◌∷◌, ◌++◌, length, set, get_or, refl, sym, ap, ◌∙◌, subst, inl, inr, arith, Option, Some, None}
use Rattle.std.proofs.lemmas.Bool.{leb-true, leb-false}
use mathlib.Core.Logic.{dite}
use mathlib.Core.Option.{some, none, some-injective, some-ne-none}
use mathlib.Core.Option as maybe
use native.Mathlib.Decide.{ℕ_discrete, dec_lt}
use lib.ListN.{get_elem?}
use lib.Seq.{set-get_or}
use Rattle.atomic_table.specs.Table.{State, step, keeps, Allows, Joins, Final, Seen}
use Rattle.atomic_table.proofs.Lists.{set_else}
use Rattle.or_turn.specs.declared.view.Settings.{Settings}
use Rattle.or_turn.specs.Schedules.{IsDefined, count}
use Rattle.or_turn.proofs.Replays.{count_none, count_append, defined_begins}
use Rattle.or_turn.specs.declared.view.Transfer.{Transfer}
use Rattle.or_turn.specs.declared.view.JoinedHalves.{JoinedHalves}
use Rattle.or_turn.specs.declared.view.Stage.{Stage}
use Rattle.or_turn.specs.declared.view.Stage.TheVariants.{Idle, Waits, Holds, Joined, Spent}
use Rattle.or_turn.specs.declared.view.View.{View}
use Rattle.or_turn.specs.Rule.{Begins, spent_view, SlotHolds, Witness, StageHolds, AreJoined, longer, SeatKnows, InTurn, IsHolder, Has, SlotIs, RuleHolds}
use Rattle.or_words.specs.Settings.{Fits}
use Rattle.or_turn.specs.Told.{SeatState, either_mark, joined_view, JoinConfirmed, confirmed}
use Rattle.or_turn.proofs.Counts.{count_begins, count_zero}
use Rattle.or_turn.proofs.Seats.{moved, moved_here, moved_else, has_me, has_else, has_still, each_still, live, slot_still, same_at, one_owner}
use Rattle.or_turn.proofs.Opening.{not_spent, idle_waits, idle_holds, stage_same}
use Rattle.or_turn.proofs.Waiting.{only}

-- the last view has every core: the schedule is whole, and the slot has its value
pub record LastKnows (v : View) (transfer : Transfer) : Type 0 where
  pub schedule : List ℕ
  pub fits : Fits v.settings.config
  pub begins : Begins v.seen schedule
  pub defined : IsDefined v.settings schedule
  pub holds : SlotHolds v.settings schedule transfer
  pub told : (c : ℕ) → c < v.settings.config.cores → count c v.seen ≡ count c schedule
  pub below : (c : ℕ) → 0 < count c v.cores → c < v.settings.config.cores
  pub once : (c : ℕ) → count c v.cores ≤ 1

-- of two beginnings of a list the shorter begins the longer
pub begins_both : (xs ys all : List ℕ) → Begins xs all → Begins ys all → length xs ≤ length ys → Begins xs ys
begins_both [] ys all a b h = (ys, refl)
begins_both (x ∷ xs) [] all a b h = absurd (omega arith)
begins_both (x ∷ xs) (y ∷ ys) [] a b h = absurd (let e : [] ≡ x ∷ (xs ++ a.0) = a.1 in cc)
begins_both (x ∷ xs) (y ∷ ys) (z ∷ all) a b h =
    let e : z ∷ all ≡ x ∷ (xs ++ a.0) = a.1 in let f : z ∷ all ≡ y ∷ (ys ++ b.0) = b.1 in
    let same : y ≡ x = cc in let left : all ≡ xs ++ a.0 = cc in let right : all ≡ ys ++ b.0 = cc in
    let r = begins_both xs ys all (a.0, left) (b.0, right) (omega arith) in (r.0, λ i. same i ∷ r.1 i)

-- the longer of two, and what is known of either
pub longer_has : (P : List ℕ → Type 0) (xs ys : List ℕ) → (length xs ≤ length ys → P ys) → (length ys ≤ length xs → P xs) → P (longer xs ys)
longer_has P xs ys one two = go (leb (length xs) (length ys)) refl
  where
    go : (b : Bool) → leb (length xs) (length ys) ≡ b → P (cond b ys xs)
    go true e = one (leb-true (length xs) (length ys) e)
    go false e = two (let l = leb-false (length xs) (length ys) e in omega arith)

holder_core : (n : Witness) (mine seen : List ℕ) (z : Stage) → IsHolder z → StageHolds n mine seen z → (c : ℕ) × (mine ≡ c ∷ [])
holder_core n mine seen Holds y k = (k.0, k.1)
holder_core n mine seen Idle y k = absurd y
holder_core n mine seen (Waits _) y k = absurd y
holder_core n mine seen Spent y k = absurd y
holder_core n mine seen (Joined _) y k = absurd y

opener_after : Option ℕ → ℕ → ℕ → ℕ
opener_after None id opener = opener
opener_after (Some k) id opener = id

module _ (st : Settings) where
  pub joins : (id : ℕ) (v : View) (other : ℕ) (w : View) → v.stage ≡ Idle → w.stage ≡ Idle → Joins (RuleHolds st) id v other w (joined_view v w) spent_view
  unfolding opener_after
  joins id v other w idle idle' s kept at apart there =
      let n : Witness = kept.now in let both : View = joined_view v w in let vs : List View = set s.views id both in
      let at' : get_elem? s.views other ≡ some w = sym (set_else s.views id other both apart) ∙ there in
      let a : SeatKnows st n id v = kept.each id v at in let b : SeatKnows st n other w = kept.each other w at' in
      let is : v.settings ≡ st = live st n id v a (not_spent v idle) in
      let n' : Witness = record n { owner = moved n.owner other id; opener = opener_after w.opening id n.opener } in
      let counts : (c : ℕ) → count c (v.cores ++ w.cores) ≡ count c v.cores + count c w.cores = λ c. count_append c v.cores w.cores in record {
        fits = kept.fits;
        now = n';
        words = kept.words;
        are_stays = kept.are_stays;
        most = kept.most;
        defined = kept.defined;
        others = kept.others;
        queued = kept.queued;
        once = kept.once;
        owned = λ c h. let o = kept.owned c h in dite (ℕ_discrete (n.owner c) other)
            (λ e. let x : o.0 ≡ w = same_at s.views (n.owner c) other o.0 w o.1 at' e in let more : 0 < count c w.cores = subst (λ (y : View). 0 < count c y.cores) x o.2 in
            subst (λ (j : ℕ). Has (set vs other spent_view) j (λ y. 0 < count c y.cores)) (sym (moved_here n.owner other id c e))
            (has_else vs other w spent_view there id (λ y. 0 < count c y.cores) (λ z. apart (sym z)) (has_me s.views id v both at (λ y. 0 < count c y.cores) (let sum = counts c in omega arith))))
            (λ ne. subst (λ (j : ℕ). Has (set vs other spent_view) j (λ y. 0 < count c y.cores)) (sym (moved_else n.owner other id c ne))
            (has_else vs other w spent_view there (n.owner c) (λ y. 0 < count c y.cores) ne
            (has_still s.views id v both at (n.owner c) (λ y. 0 < count c y.cores) (λ y. 0 < count c y.cores) (λ y z. z) (λ z. let sum = counts c in omega arith) o)));
        waiting = λ i c e. let o = kept.waiting i c e in dite (ℕ_discrete (n.owner c) other)
            (λ z. absurd (idle_waits n i o.0.stage (ap (λ (y : View). y.stage) (same_at s.views (n.owner c) other o.0 w o.1 at' z) ∙ idle') o.2))
            (λ ne. subst (λ (j : ℕ). Has (set vs other spent_view) j (λ y. InTurn n' i y.stage)) (sym (moved_else n.owner other id c ne))
            (has_else vs other w spent_view there (n.owner c) (λ y. InTurn n' i y.stage) ne
            (has_still s.views id v both at (n.owner c) (λ y. InTurn n i y.stage) (λ y. InTurn n' i y.stage) (λ y z. z) (λ z. absurd (idle_waits n i v.stage idle z)) o)));
        each = each_still vs other w spent_view there (SeatKnows st n')
            (record {
              settings = inl refl;
              opening = λ k e. absurd (let z : None ≡ Some k = e in cc);
              cores = λ c h. absurd (count_zero c h);
              once = λ c. let z = count_none c in omega arith;
              seen = (n.schedule, refl);
              told = λ c h. absurd (count_zero c h);
              stage = tt;
            })
            (λ j x not e. each_still s.views id v both at (λ i y. i ≢ other → SeatKnows st n' i y)
            (λ _. record {
              settings = inr is;
              opening = λ k m. marks v.opening w.opening (λ i z. a.opening i z) (λ i z. b.opening i z) k m;
              cores = λ c h. let sum = counts c in dite (dec_lt 0 (count c v.cores))
                  (λ l. let m = a.cores c l in (m.0, moved_else n.owner other id c (λ z. apart (sym z ∙ m.1)) ∙ m.1))
                  (λ no. let m = b.cores c (omega arith) in (m.0, moved_here n.owner other id c m.1));
              once = λ c. let sum = counts c in let l = a.once c in let r = b.once c in dite (dec_lt 0 (count c v.cores))
                  (λ p. dite (dec_lt 0 (count c w.cores)) (λ q. absurd (apart (sym (one_owner st n id other c v w a b p q)))) (λ no. omega arith))
                  (λ no. omega arith);
              seen = longer_has (λ l. Begins l n.schedule) v.seen w.seen (λ _. b.seen) (λ _. a.seen);
              told = λ c h. let sum = counts c in longer_has (λ l. count c l ≡ count c n.schedule) v.seen w.seen
                  (λ le. dite (dec_lt 0 (count c v.cores))
                  (λ p. let t = a.told c p in let x = count_begins c v.seen w.seen (begins_both v.seen w.seen n.schedule a.seen b.seen le) in let y = count_begins c w.seen n.schedule b.seen in omega arith)
                  (λ no. b.told c (omega arith)))
                  (λ le. dite (dec_lt 0 (count c v.cores))
                  (λ p. a.told c p)
                  (λ no. let t = b.told c (omega arith) in let x = count_begins c w.seen v.seen (begins_both w.seen v.seen n.schedule b.seen a.seen le) in let y = count_begins c v.seen n.schedule a.seen in omega arith));
              stage = record { settings = live st n other w b (not_spent w idle') ∙ sym is; cores_are = refl; seen_is = refl; first = a.seen; second = b.seen; told = a.told; other_told = b.told };
            })
            (λ i y ne f not'. let o = kept.each i y f in record {
              settings = o.settings;
              opening = λ k m. let q = o.opening k m in (rests w.opening (λ k' z. b.opening k' z) i not' q.0, q.1);
              cores = λ c h. let m = o.cores c h in (m.0, moved_else n.owner other id c (λ z. not' (sym m.1 ∙ z)) ∙ m.1);
              once = o.once;
              seen = o.seen;
              told = o.told;
              stage = stage_same n n' y.cores y.seen y.stage refl refl refl refl o.stage;
            })
            j x e not);
        slot = slot_still st n n' n.held s record { words = s.words; homes = s.homes; views = set vs other spent_view } refl refl
            (λ j h. (
              j,
              has_else vs other w spent_view there j (λ x. IsHolder x.stage) (λ e. idle_holds h.0.stage (ap (λ (y : View). y.stage) (same_at s.views j other h.0 w h.1 at' e) ∙ idle') h.2)
                  (has_still s.views id v both at j (λ x. IsHolder x.stage) (λ x. IsHolder x.stage) (λ x z. z) (λ z. absurd (idle_holds v.stage idle z)) h),
            )) kept.slot;
      }
    where
      marks : (p q : Option ℕ) → ((k : ℕ) → p ≡ Some k → (id ≡ kept.now.opener) × (k ≡ kept.now.enrolled)) → ((k : ℕ) → q ≡ Some k → (other ≡ kept.now.opener) × (k ≡ kept.now.enrolled))
          → (k : ℕ) → either_mark p q ≡ Some k → (id ≡ opener_after q id kept.now.opener) × (k ≡ kept.now.enrolled)
      marks None None f g k e = absurd cc
      marks None (Some i) f g k e = (refl, (g k e).1)
      marks (Some i) None f g k e = f k e
      marks (Some i) (Some j) f g k e = absurd (apart ((g j refl).0 ∙ sym (f i refl).0))

      rests : (q : Option ℕ) → ((k : ℕ) → q ≡ Some k → (other ≡ kept.now.opener) × (k ≡ kept.now.enrolled)) → (i : ℕ) → i ≢ other → i ≡ kept.now.opener → i ≡ opener_after q id kept.now.opener
      rests None g i ne e = e
      rests (Some j) g i ne e = absurd (ne (e ∙ sym (g j refl).0))

  pub confirms : (slots id : ℕ) (me : SeatState) (h : JoinedHalves) → me.0.stage ≡ Joined h → Allows (RuleHolds st) slots id me 0 (λ x. x) (confirmed (step slots 0 0 0 none) me)
  confirms slots id me h joined s kept _ at _ =
      let n : Witness = kept.now in let mine : SeatKnows st n id me.0 = kept.each id me.0 at in let is : me.0.settings ≡ st = live st n id me.0 mine (λ e. joined_spent h me.0.stage joined e) in
      let w : View = record me.0 { stage = Idle } in let not_turn : (i : ℕ) → InTurn n i me.0.stage → ⊥ = λ i z. subst (InTurn n i) joined z in let not_holder : IsHolder me.0.stage → ⊥ = λ z. subst IsHolder joined z in (
        w,
        keeps,
        tt,
        record {
          fits = kept.fits;
          now = n;
          words = set-get_or s.words 0 0 ∙ kept.words;
          are_stays = kept.are_stays;
          most = kept.most;
          defined = kept.defined;
          others = kept.others;
          queued = kept.queued;
          once = kept.once;
          owned = λ c l. has_still s.views id me.0 w at (n.owner c) (λ v. 0 < count c v.cores) (λ v. 0 < count c v.cores) (λ v z. z) (λ z. z) (kept.owned c l);
          waiting = λ i c e. has_still s.views id me.0 w at (n.owner c) (λ v. InTurn n i v.stage) (λ v. InTurn n i v.stage) (λ v z. z) (λ z. absurd (not_turn i z)) (kept.waiting i c e);
          each = each_still s.views id me.0 w at (SeatKnows st n)
              (record { settings = inr is; opening = mine.opening; cores = mine.cores; once = mine.once; seen = mine.seen; told = mine.told; stage = tt })
              (λ j v other e. kept.each j v e);
          slot = slot_still st n n n.held s record { words = set s.words 0 (get_or s.words 0 0); homes = s.homes; views = set s.views id w } refl refl
              (λ j z. (j, has_still s.views id me.0 w at j (λ v. IsHolder v.stage) (λ v. IsHolder v.stage) (λ v y. y) (λ y. absurd (not_holder y)) z)) kept.slot;
        },
        (refl, refl, λ h' e. joint n me.0.cores me.0.seen h' kept.defined kept.fits kept.most is mine (subst (StageHolds n me.0.cores me.0.seen) e mine.stage)),
      )
    where
      joined_spent : (h : JoinedHalves) (x : Stage) → x ≡ Joined h → x ≡ Spent → ⊥
      joined_spent h x a b = cc

      joint : (n : Witness) (mine seen : List ℕ) (h' : JoinedHalves) → IsDefined st n.schedule → Fits st.config → n.enrolled ≤ st.config.cores → me.0.settings ≡ st → SeatKnows st n id me.0 → AreJoined n.schedule me.0.cores me.0.seen h' → JoinConfirmed (me.0.settings) me.0.cores me.0.seen h'
      joint n mine seen h' def fits most is k o = let xs : List ℕ = me.0.seen in
          let one : Begins h'.seen xs = subst (Begins h'.seen) (sym o.seen_is) (longer_has (λ l. Begins h'.seen l) h'.seen h'.other_seen (λ le. begins_both h'.seen h'.other_seen n.schedule o.first o.second le) (λ le. ([], sym (mathlib.Core.List.append-nil h'.seen)))) in
          let two : Begins h'.other_seen xs = subst (Begins h'.other_seen) (sym o.seen_is) (longer_has (λ l. Begins h'.other_seen l) h'.seen h'.other_seen (λ le. ([], sym (mathlib.Core.List.append-nil h'.other_seen))) (λ le. begins_both h'.other_seen h'.seen n.schedule o.second o.first le)) in record {
            settings = o.settings;
            fits = subst (λ (z : Settings). Fits z.config) (sym is) fits;
            below = λ c l. subst (λ (z : Settings). c < z.config.cores) (sym is) (let m = (k.cores c l).0 in omega arith);
            once = k.once;
            defined = subst (λ (z : Settings). IsDefined z xs) (sym is) (defined_begins st xs k.seen.0 (subst (IsDefined st) k.seen.1 def));
            first = one;
            second = two;
            told = λ c l. let t = o.told c l in let a = count_begins c h'.seen xs one in let b = count_begins c xs n.schedule k.seen in omega arith;
            other_told = λ c l. let t = o.other_told c l in let a = count_begins c h'.other_seen xs two in let b = count_begins c xs n.schedule k.seen in omega arith;
          }

  -- who has every core knows that no one holds the slot
  pub shuts : (id : ℕ) (v : View) (words : List ℕ) (slots : List (Option Transfer)) → v.stage ≡ Idle → ((c : ℕ) → c < v.settings.config.cores → 0 < count c v.cores) → Final (Seen (RuleHolds st) id v) words slots
      → (transfer : Transfer) × (get_elem? slots 0 ≡ some (Some transfer)) × LastKnows v transfer
  shuts id v words slots idle all last = let kept = last.1.0 in go last.0 kept last.1.1 kept.now.held refl kept.slot last.4
    where
      go : (s : State (Option Transfer) View) (kept : RuleHolds st s) → get_elem? s.views id ≡ some v → (b : Bool) → kept.now.held ≡ b → SlotIs st kept.now b s
          → ((k : ℕ) (y : Option Transfer) → get_elem? s.homes k ≡ some (some y) → get_elem? slots k ≡ some y) → (transfer : Transfer) × (get_elem? slots 0 ≡ some (Some transfer)) × LastKnows v transfer
      go s kept at true h slot homes = let j : ℕ = slot.1.0 in let o = slot.1.1 in let k = kept.each j o.0 o.1 in let mine = kept.each id v at in let is = live st kept.now id v mine (not_spent v idle) in
          let core = holder_core kept.now o.0.cores o.0.seen o.0.stage o.2 k.stage in let c : ℕ = core.0 in absurd (let has : 0 < count c o.0.cores = only c o.0.cores core.1 in let inside = (k.cores c has).0 in let most = kept.most in
          let few : c < v.settings.config.cores = subst (λ (z : Settings). c < z.config.cores) (sym is) (omega arith) in
          idle_holds o.0.stage (ap (λ (y : View). y.stage) (same_at s.views j id o.0 v o.1 at (one_owner st kept.now j id c o.0 v k mine has (all c few))) ∙ idle) o.2)
      go s kept at false h slot homes = let n : Witness = kept.now in let mine = kept.each id v at in let is = live st n id v mine (not_spent v idle) in (
        slot.0,
        homes 0 (Some slot.0) (ap (λ (hs : List (maybe.Option (Option Transfer))). get_elem? hs 0) slot.1),
        record {
          schedule = n.schedule;
          fits = subst (λ (z : Settings). Fits z.config) (sym is) kept.fits;
          begins = mine.seen;
          defined = subst (λ (z : Settings). IsDefined z n.schedule) (sym is) kept.defined;
          holds = subst (λ (z : Settings). SlotHolds z n.schedule slot.0) (sym is) slot.2;
          told = λ c few. mine.told c (all c few);
          below = λ c l. subst (λ (z : Settings). c < z.config.cores) (sym is) (let m = (mine.cores c l).0 in let most = kept.most in omega arith);
          once = mine.once;
        },
      )
