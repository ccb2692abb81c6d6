-- The cores of two units that are joined.
use Rattle.std.proofs.Common.{◌≡◌, ℕ, ◌<◌, ◌≤◌, List, [], ◌∷◌, ◌++◌, length, map, get_or, zero, suc, refl, sym, ap, ◌∙◌, subst, arith, ◌+◌}
use mathlib.Core.Logic.{dite}
use mathlib.Core.List.{map-append}
use mathlib.Core.Option.{some, some-injective, some-ne-none}
use lib.ListN.{length-map, get_elem?}
use native.Mathlib.Decide.{ℕ_discrete, dec_lt}
use Rattle.std.proofs.Math.ListN.{get_or-append}
use Rattle.std.proofs.Math.Seq.{get_or-append_seam}
use Rattle.or_turn.specs.declared.view.Settings.{Settings}
use Rattle.or_model.specs.Core.{Core}
use Rattle.or_turn.specs.Schedules.{count, core_at, board_of}
use Rattle.std.specs.Prelude.{slice_get, Some}
use Rattle.or_bus.specs.State.{BusState}
use Rattle.or_replay.specs.Board.{AreOfBus}
use Rattle.or_turn.proofs.Replays.{count_same, count_cons, at_get, or_no_core}
use Rattle.or_turn.proofs.Lengths.{AllBelow, length_most, length_least}
use Rattle.or_turn.specs.declared.view.Transfer.{Transfer}
use Rattle.or_turn.specs.declared.view.JoinedHalves.{JoinedHalves}
use Rattle.or_turn.specs.declared.view.View.{View}
use Rattle.or_turn.specs.Rule.{longer}
use Rattle.or_turn.specs.Told.{JoinConfirmed, halves, both_view}
use Rattle.or_turn.specs.SeatViews.{core_of}
use Rattle.or_turn.specs.Ordered.{Numbered, Among}
use Rattle.or_turn.proofs.Steps.{sound}
use Rattle.or_turn.proofs.Removals.{map_row, same_row}
use Rattle.or_turn.proofs.Counts.{below_counts, count_at, core_told}
use Rattle.or_turn.proofs.Joining.{LastKnows}

-- the cores of one unit are few
pub joint_short : (st : Settings) (mine seen : List ℕ) (h : JoinedHalves) → JoinConfirmed st mine seen h → length mine ≤ 8
joint_short st mine seen h j =
    let below : AllBelow st.config.cores mine = below_counts st.config.cores mine (λ c le. dite (ℕ_discrete (count c mine) 0) (λ z. z) (λ z. let b = j.below c (omega arith) in absurd (omega arith))) in
    let short = length_most st.config.cores 1 mine below (λ c l. j.once c) in let f = j.fits.few_cores in omega arith

pub map_same : (f g : ℕ → Core) (xs : List ℕ) → ((c : ℕ) → 0 < count c xs → f c ≡ g c) → map f xs ≡ map g xs
map_same f g [] h = refl
map_same f g (x ∷ xs) h = λ i. h x (let a = count_cons x x xs in let b = count_same x in omega arith) i ∷ map_same f g xs (λ c l. h c (let a = count_cons c x xs in omega arith)) i

pub joint_cores : (v w : View) → JoinConfirmed (v.settings) (v.cores ++ w.cores) (longer v.seen w.seen) (halves v w) → map (core_of v) v.cores ++ map (core_of w) w.cores ≡ map (core_of (both_view v w)) (v.cores ++ w.cores)
unfolding core_of
joint_cores v w j = let u : View = both_view v w in
    (λ i. map_same (core_of v) (core_of u) v.cores (λ c l. core_told v.settings v.seen u.seen c j.defined j.first (j.told c l)) i
    ++ map_same (core_of w) (core_of u) w.cores (λ c l. ap (λ (st : Settings). core_at (board_of st w.seen).cores c) j.settings ∙ core_told v.settings w.seen u.seen c j.defined j.second (j.other_told c l)) i)
    ∙ sym (map-append (core_of u) v.cores w.cores)

-- the last unit has each core once, as the whole schedule leaves it
module _ (v : View) (transfer : Transfer) (shut : LastKnows v transfer) (all : (c : ℕ) → c < v.settings.config.cores → 0 < count c v.cores) where
  pub shut_core : (c : ℕ) → c < v.settings.config.cores → core_of v c ≡ core_at (board_of (v.settings) shut.schedule).cores c
  unfolding core_of
  shut_core c h = core_told v.settings v.seen shut.schedule c shut.defined shut.begins (shut.told c h)

  pub shut_number : (c : ℕ) → c < v.settings.config.cores → (core_of v c).number ≡ c
  shut_number c h = ap (λ (k : Core). k.number) (shut_core c h) ∙ ((sound (v.settings) shut.fits shut.schedule shut.defined).each c h).same_number

  pub shut_length : length v.cores ≡ v.settings.config.cores
  shut_length =
      let below : AllBelow v.settings.config.cores v.cores = below_counts v.settings.config.cores v.cores (λ c le. dite (ℕ_discrete (count c v.cores) 0) (λ z. z) (λ z. let b = shut.below c (omega arith) in absurd (omega arith))) in
      let short = length_most v.settings.config.cores 1 v.cores below (λ c l. shut.once c) in let long = length_least v.settings.config.cores v.cores all in omega arith

  -- core n stands among the cores of the unit
  pub shut_numbered : (n : ℕ) → n < v.settings.config.cores → Numbered n (map (core_of v) v.cores)
  shut_numbered n h = let i = count_at n v.cores (all n h) in let r = at_or v.cores i.0 n i.1 in let l = length-map v.cores (core_of v) in let inside = r.0 in
      (i.0, omega arith, ap (λ (k : Core). k.number) (map_row (core_of v) v.cores i.0 r.0 ∙ ap (core_of v) r.1) ∙ shut_number n h)
    where
      at_or : (xs : List ℕ) (i n : ℕ) → get_elem? xs i ≡ some n → (i < length xs) × (get_or xs i 0 ≡ n)
      at_or [] i n e = absurd (some-ne-none n (sym e))
      at_or (x ∷ xs) zero n e = (omega arith, some-injective x n e)
      at_or (x ∷ xs) (suc i) n e = let r = at_or xs i n e in let l = r.0 in (omega arith, r.1)

  -- what stands at place n with the number n is core n
  pub shut_row : (row : List Core) → length row ≡ length v.cores → ((n : ℕ) → n < length v.cores → ((core_at row n).number ≡ n) × Among (core_at row n) (map (core_of v) v.cores)) → row ≡ (board_of (v.settings) shut.schedule).cores
  shut_row row len each = same_row row (board_of (v.settings) shut.schedule).cores (len ∙ (shut_length ∙ sym (sound (v.settings) shut.fits shut.schedule shut.defined).as_many)) (λ n l.
      let e = each n (omega arith) in let j : ℕ = e.1.0 in let inside = e.1.1 in let mapped = length-map v.cores (core_of v) in
      let c' : ℕ = get_or v.cores j 0 in let is : core_at (map (core_of v) v.cores) j ≡ core_of v c' = map_row (core_of v) v.cores j (omega arith) in
      let few : c' < v.settings.config.cores = shut.below c' (or_count v.cores j (omega arith)) in
      let same : n ≡ c' = sym e.0 ∙ (ap (λ (k : Core). k.number) (sym e.1.2 ∙ is) ∙ shut_number c' few) in
      sym e.1.2 ∙ (is ∙ (ap (core_of v) (sym same) ∙ shut_core n (let z = shut_length in omega arith))))
    where
      or_count : (xs : List ℕ) (j : ℕ) → j < length xs → 0 < count (get_or xs j 0) xs
      or_count [] j h = absurd (omega arith)
      or_count (x ∷ xs) zero h = let a = count_cons x x xs in let b = count_same x in omega arith
      or_count (x ∷ xs) (suc j) h = let r = or_count xs j (omega arith) in let a = count_cons (get_or xs j 0) x xs in omega arith

  -- and they are the cores of the bus
  pub shut_order : (row : List Core) (bus : BusState) → row ≡ (board_of v.settings shut.schedule).cores → bus.cores ≡ transfer.bus.value.cores → AreOfBus row bus
  shut_order row bus same of =
      let all_sound = sound v.settings shut.fits shut.schedule shut.defined in let many : length row ≡ v.settings.config.cores = ap (λ (l : List Core). length l) same ∙ all_sound.as_many in record {
        many = many ∙ sym (of ∙ shut.holds.cores);
        numbered = λ c core found. let at : core_at (board_of v.settings shut.schedule).cores c ≡ core = ap (λ (l : List Core). core_at l c) (sym same) ∙ (at_get row c ∙ ap or_no_core found) in
            ap (λ (k : Core). k.number) (sym at) ∙ (all_sound.each c (let inside = got_inside row c core found in omega arith)).same_number;
      }
    where
      got_inside : (cores : List Core) (c : ℕ) (core : Core) → slice_get cores c ≡ Some core → c < length cores
      got_inside [] c core found = absurd (let b : ⊥ = cc in b)
      got_inside (first ∷ cores) zero core found = omega arith
      got_inside (first ∷ cores) (suc c) core found = let i = got_inside cores c core found in omega arith

-- what is true of each of these by its number, and of one more
pub each_pushed : {X : Type 0} (P : ℕ → X → Type 0) (xs ys : List X) (u : X) (many : ℕ) → ys ≡ xs ++ u ∷ [] → length xs ≡ many → ((n : ℕ) (d : X) → n < many → P n (get_or xs n d)) → P many u
    → (n : ℕ) (d : X) → n < many + 1 → P n (get_or ys n d)
each_pushed {X = X} P xs ys u many e len all this n d h = subst (λ (l : List X). P n (get_or l n d)) (sym e) (dite (dec_lt n (length xs))
    (λ l. subst (P n) (sym (get_or-append xs (u ∷ []) d n l)) (all n d (omega arith)))
    (λ no. let at : length xs ≡ n = omega arith in
    subst (λ (k : ℕ). P k (get_or (xs ++ u ∷ []) k d)) at (subst (P (length xs)) (sym (get_or-append_seam xs u [] d)) (subst (λ (k : ℕ). P k u) (sym len) this))))
