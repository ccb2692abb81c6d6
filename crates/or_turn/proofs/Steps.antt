-- A turn makes at least one step, and no core goes past its budget.
use Rattle.std.proofs.Common.{◌≡◌, ℕ, zero, suc, ◌+◌, ◌*◌, ◌<◌, ◌≤◌, List, [], ◌∷◌, ◌++◌, length, refl, sym, ap, ◌∙◌, subst, arith, None}
use mathlib.Core.Logic.{dite}
use native.Mathlib.Decide.{ℕ_discrete}
use Rattle.or_words.specs.declared.Config.{Config}
use Rattle.or_words.specs.Settings.{Fits}
use Rattle.or_model.specs.Core.{Core, reset_core}
use Rattle.or_model.specs.Counts.{IsWithinBudget}
use Rattle.or_model.specs.Turn.{Board, turn, reset_cores}
use Rattle.or_model.proofs.Turns.{turn-adds}
use Rattle.or_replay.specs.Start.{start}
use Rattle.or_replay.proofs.Reset.{length-reset_cores}
use Rattle.or_turn.specs.declared.view.Settings.{Settings}
use Rattle.or_turn.specs.Schedules.{first_board, board_of, core_at, IsDefined, count}
use Rattle.or_turn.proofs.Lengths.{AllBelow, length_most}
use Rattle.or_turn.proofs.Replays.{MayTurn, MayAll, turned_board, turned_other, turned_here, turned_length, fold_turns, replay_folds, replays, count_none, count_same, count_other, count_cons}

-- where a core may stand: it has this number and this budget, and steps left while it runs
pub record Sound (number budget : ℕ) (core : Core) : Type 0 where
  pub same_number : core.number ≡ number
  pub same_budget : core.budget ≡ budget
  pub within : IsWithinBudget core

pub record AllSound (config : Config) (b : Board) : Type 0 where
  pub as_many : length b.cores ≡ config.cores
  pub each : (c : ℕ) → c < config.cores → Sound c config.budget (core_at b.cores c)

pub turned_sound : (config : Config) (b : Board) (c : ℕ) → AllSound config b → MayTurn b c → AllSound config (turned_board b c)
turned_sound config b c all may = record {
  as_many = turned_length b c ∙ all.as_many;
  each = λ d h. dite (ℕ_discrete d c)
      (λ e. let m = all.as_many in let w : Sound c config.budget (core_at b.cores c) = all.each c (omega arith) in let adds = turn-adds (core_at b.cores c) b.world w.within may.1 in
      subst (λ (x : ℕ). Sound x config.budget (core_at (turned_board b c).cores x)) (sym e) (subst (Sound c config.budget) (sym (turned_here b c may.0))
      (record { same_number = adds.settings.number ∙ w.same_number; same_budget = adds.settings.budget ∙ w.same_budget; within = adds.within })))
      (λ other. subst (Sound d config.budget) (sym (turned_other b c d other)) (all.each d h));
}

fold_sound : (config : Config) (b : Board) (xs : List ℕ) → AllSound config b → MayAll b xs → AllSound config (fold_turns b xs)
unfolding fold_turns MayAll
fold_sound config b [] all may = all
fold_sound config b (x ∷ xs) all may = fold_sound config (turned_board b x) xs (turned_sound config b x all may.0) may.1

-- each entry is one of the board's cores
fold_below : (b : Board) (xs : List ℕ) → MayAll b xs → AllBelow (length b.cores) xs
unfolding MayAll
fold_below b [] may = tt
fold_below b (x ∷ xs) may = (may.0.0, subst (λ (n : ℕ). AllBelow n xs) (turned_length b x) (fold_below (turned_board b x) xs may.1))

-- each entry of a core is at least one of its steps
fold_steps : (config : Config) (b : Board) (xs : List ℕ) (c : ℕ) → AllSound config b → MayAll b xs → (core_at b.cores c).steps + count c xs ≤ (core_at (fold_turns b xs).cores c).steps
unfolding fold_turns MayAll
fold_steps config b [] c all may = let none = count_none c in omega arith
fold_steps config b (x ∷ xs) c all may = let rest = fold_steps config (turned_board b x) xs c (turned_sound config b x all may.0) may.1 in let sum = count_cons c x xs in dite (ℕ_discrete x c)
    (λ e. let one : count c (x ∷ []) ≡ 1 = ap (λ (y : ℕ). count c (y ∷ [])) e ∙ count_same c in
    let m = all.as_many in let inside = may.0.0 in let w : Sound x config.budget (core_at b.cores x) = all.each x (omega arith) in
    let adds = (turn-adds (core_at b.cores x) b.world w.within may.0.1).some in
    let here : (core_at (turned_board b x).cores x).steps ≡ (turn (core_at b.cores x) b.world).core.steps = ap (λ (k : Core). k.steps) (turned_here b x inside) in
    let up : (core_at b.cores x).steps + 1 ≤ (core_at (turned_board b x).cores x).steps = omega arith in
    let there = subst (λ (z : ℕ). (core_at b.cores z).steps + 1 ≤ (core_at (turned_board b x).cores z).steps) e up in omega arith)
    (λ other. let none : count c (x ∷ []) ≡ 0 = count_other c x other in
    let same : (core_at (turned_board b x).cores c).steps ≡ (core_at b.cores c).steps = ap (λ (k : Core). k.steps) (turned_other b x c (λ e. other (sym e))) in omega arith)

snoc_before : (xs : List Core) (k : Core) (i : ℕ) → i < length xs → core_at (xs ++ k ∷ []) i ≡ core_at xs i
snoc_before [] k i h = absurd (omega arith)
snoc_before (x ∷ xs) k zero h = refl
snoc_before (x ∷ xs) k (suc i) h = snoc_before xs k i (omega arith)

snoc_last : (xs : List Core) (k : Core) (i : ℕ) → i ≡ length xs → core_at (xs ++ k ∷ []) i ≡ k
snoc_last [] k zero h = refl
snoc_last [] k (suc i) h = absurd (omega arith)
snoc_last (x ∷ xs) k zero h = absurd (omega arith)
snoc_last (x ∷ xs) k (suc i) h = snoc_last xs k i (omega arith)

pub reset_at : (config : Config) (many c : ℕ) → c < many → core_at (reset_cores config many) c ≡ reset_core config c
unfolding reset_cores
reset_at config zero c h = absurd (omega arith)
reset_at config (suc many) c h = let l = length-reset_cores config many in dite (ℕ_discrete c many)
    (λ e. snoc_last (reset_cores config many) (reset_core config many) c (omega arith) ∙ ap (reset_core config) (sym e))
    (λ other. snoc_before (reset_cores config many) (reset_core config many) c (omega arith) ∙ reset_at config many c (omega arith))

reset_sound : (config : Config) (c : ℕ) → 0 < config.budget → Sound c config.budget (reset_core config c)
unfolding reset_core
reset_sound config c some = record { same_number = refl; same_budget = refl; within = record { steps = omega arith; running = λ e. some } }

pub first_cores : (st : Settings) → (first_board st).cores ≡ reset_cores st.config st.config.cores
unfolding start
first_cores st = refl

module _ (st : Settings) (fits : Fits st.config) where
  pub first_sound : AllSound st.config (first_board st)
  first_sound = record {
    as_many = ap (λ (l : List Core). length l) (first_cores st) ∙ length-reset_cores st.config st.config.cores;
    each = λ c h. subst (Sound c st.config.budget) (sym (ap (λ (l : List Core). core_at l c) (first_cores st) ∙ reset_at st.config st.config.cores c h)) (reset_sound st.config c (let s = fits.some_step in omega arith));
  }

  module _ (xs : List ℕ) (defined : IsDefined st xs) where
    pub sound : AllSound st.config (board_of st xs)
    sound = let f = replay_folds (first_board st) (board_of st xs) xs (replays st xs defined) in subst (AllSound st.config) (sym f.1) (fold_sound st.config (first_board st) xs first_sound f.0)

    pub entries_below : AllBelow st.config.cores xs
    entries_below = let f = replay_folds (first_board st) (board_of st xs) xs (replays st xs defined) in subst (λ (n : ℕ). AllBelow n xs) first_sound.as_many (fold_below (first_board st) xs f.0)

    pub count_steps : (c : ℕ) → count c xs ≤ (core_at (board_of st xs).cores c).steps
    count_steps c = let f = replay_folds (first_board st) (board_of st xs) xs (replays st xs defined) in let h = fold_steps st.config (first_board st) xs c first_sound f.0 in
        let same : (core_at (board_of st xs).cores c).steps ≡ (core_at (fold_turns (first_board st) xs).cores c).steps = ap (λ (d : Board). (core_at d.cores c).steps) f.1 in omega arith

    -- and there are few of them
    pub few_turns : length xs ≤ st.config.cores * st.config.budget
    few_turns = length_most st.config.cores st.config.budget xs entries_below (λ c h. let a = count_steps c in let s = sound.each c h in let b = s.within.steps in let e = s.same_budget in omega arith)

    -- no core has more entries than its budget, and one that runs has fewer
    pub count_budget : (c : ℕ) → c < st.config.cores → count c xs ≤ st.config.budget
    count_budget c h = let a = count_steps c in let s = sound.each c h in let b = s.within.steps in let e = s.same_budget in omega arith

    pub count_running : (c : ℕ) → c < st.config.cores → (core_at (board_of st xs).cores c).stop ≡ None → count c xs < st.config.budget
    count_running c h go = let a = count_steps c in let s = sound.each c h in let b = s.within.running go in let e = s.same_budget in omega arith
