-- What a schedule leads to: a replay as a fold of turns, and what its turns leave as it was.
use Rattle.std.proofs.Common.{◌≡◌, ◌≢◌, ℕ, zero, suc, ◌+◌, ◌<◌, ◌≤◌, cond, List, [], ◌∷◌, ◌++◌, length, refl, sym, ap, ◌∙◌, subst, arith, eq-eqb, ne_eqb, Option, Some, None, length-set}
use Rattle.std.specs.Prelude.{slice_get, slice_set, is_none}
use mathlib.Core.Logic.{dite}
use native.Mathlib.Decide.{ℕ_discrete, dec_lt}
use Rattle.or_model.specs.declared.Stop.{Stop}
use Rattle.or_model.specs.Core.{Core}
use Rattle.or_model.specs.Turn.{Board, turn, with_core, running, board_turned, board_turned_by, and_then, replay}
use Rattle.or_replay.proofs.Replaying.{replay_one_more}
use Rattle.or_replay.proofs.Turning.{get_is}
use Rattle.or_turn.specs.declared.view.Settings.{Settings}
use Rattle.or_turn.specs.Schedules.{first_board, no_core, core_at, reached, board_of, IsDefined, count}

-- one turn of core c, whether it may make one or not
abbrev pub turned_board : Board → ℕ → Board
turned_board b c = with_core b c (turn (core_at b.cores c) b.world)

-- core c may make a turn
abbrev pub MayTurn : Board → ℕ → Type 0
MayTurn b c = (c < length b.cores) × ((core_at b.cores c).stop ≡ None)

pub turned_is : (b : Board) (c : ℕ) → MayTurn b c → board_turned b c ≡ Some (turned_board b c)
unfolding board_turned
turned_is b c may =
    let run : running (Some (core_at b.cores c)) ≡ Some (core_at b.cores c) = ap (λ (s : Option Stop). cond (is_none s) (Some (core_at b.cores c)) None) may.1 in
    ap (λ (o : Option Core). board_turned_by b c (running o)) (get_is b.cores c no_core may.0) ∙ ap (board_turned_by b c) run

get_none : (cores : List Core) (c : ℕ) → length cores ≤ c → slice_get cores c ≡ None
get_none [] c h = refl
get_none (core ∷ cores) zero h = absurd (omega arith)
get_none (core ∷ cores) (suc c) h = get_none cores c (omega arith)

turned_by : (b next : Board) (c : ℕ) (stop : Option Stop) → (core_at b.cores c).stop ≡ stop → board_turned_by b c (cond (is_none stop) (Some (core_at b.cores c)) None) ≡ Some next
    → ((core_at b.cores c).stop ≡ None) × (next ≡ turned_board b c)
turned_by b next c None is e = (is, cc)
turned_by b next c (Some stop) is e = absurd cc

-- a turn that is not refused is this one
pub turned_only : (b next : Board) (c : ℕ) → board_turned b c ≡ Some next → MayTurn b c × (next ≡ turned_board b c)
unfolding board_turned
turned_only b next c e = dite (dec_lt c (length b.cores))
    (λ inside. let at = get_is b.cores c no_core inside in
    let r = turned_by b next c (core_at b.cores c).stop refl (ap (λ (o : Option Core). board_turned_by b c (running o)) (sym at) ∙ e) in ((inside, r.0), r.1))
    (λ past. let none : board_turned_by b c (running (slice_get b.cores c)) ≡ None = ap (λ (o : Option Core). board_turned_by b c (running o)) (get_none b.cores c (omega arith)) in
    absurd (let z : None ≡ Some next = sym none ∙ e in cc))

-- the turns of the list, in order
unfoldable pub fold_turns : Board → List ℕ → Board
fold_turns b [] = b
fold_turns b (c ∷ later) = fold_turns (turned_board b c) later

-- each turn is one of a core that may make it
unfoldable pub MayAll : Board → List ℕ → Type 0
MayAll b [] = Unit {0}
MayAll b (c ∷ later) = MayTurn b c × MayAll (turned_board b c) later

-- a replay that is defined is the fold of its turns
pub replay_folds : (b last : Board) (turns : List ℕ) → replay b turns ≡ Some last → MayAll b turns × (last ≡ fold_turns b turns)
unfolding MayAll fold_turns
replay_folds b last [] e = (tt, cc)
replay_folds b last (c ∷ later) e = go (λ next r. replay_folds next last later r) (board_turned b c) refl e
  where
    go : ((next : Board) → replay next later ≡ Some last → MayAll next later × (last ≡ fold_turns next later)) → (o : Option Board) → board_turned b c ≡ o
        → and_then o (λ next. replay next later) ≡ Some last → (MayTurn b c × MayAll (turned_board b c) later) × (last ≡ fold_turns (turned_board b c) later)
    go rec None t e = absurd cc
    go rec (Some next) t e = let only = turned_only b next c t in let r = rec next e in
        ((only.0, subst (λ (d : Board). MayAll d later) only.1 r.0), r.1 ∙ ap (λ (d : Board). fold_turns d later) only.1)

pub fold_append : (b : Board) (xs ys : List ℕ) → fold_turns b (xs ++ ys) ≡ fold_turns (fold_turns b xs) ys
unfolding fold_turns
fold_append b [] ys = refl
fold_append b (x ∷ xs) ys = fold_append (turned_board b x) xs ys

get_set_else : (cores : List Core) (place c : ℕ) (new : Core) → c ≢ place → slice_get (slice_set cores place new) c ≡ slice_get cores c
get_set_else [] place c new other = refl
get_set_else (core ∷ cores) zero zero new other = absurd (other refl)
get_set_else (core ∷ cores) zero (suc c) new other = refl
get_set_else (core ∷ cores) (suc place) zero new other = refl
get_set_else (core ∷ cores) (suc place) (suc c) new other = get_set_else cores place c new (λ e. other (ap suc e))

get_set_here : (cores : List Core) (place : ℕ) (new : Core) → place < length cores → slice_get (slice_set cores place new) place ≡ Some new
get_set_here [] place new h = absurd (omega arith)
get_set_here (core ∷ cores) zero new h = refl
get_set_here (core ∷ cores) (suc place) new h = get_set_here cores place new (omega arith)

abbrev pub or_no_core : Option Core → Core
or_no_core None = no_core
or_no_core (Some core) = core

pub at_get : (cores : List Core) (c : ℕ) → core_at cores c ≡ or_no_core (slice_get cores c)
at_get [] c = refl
at_get (core ∷ cores) zero = refl
at_get (core ∷ cores) (suc c) = at_get cores c

-- two rows with one core at a place
pub same_at_place : (xs ys : List Core) (c : ℕ) → slice_get xs c ≡ slice_get ys c → core_at xs c ≡ core_at ys c
same_at_place xs ys c e = at_get xs c ∙ (ap or_no_core e ∙ sym (at_get ys c))

-- a turn leaves all other cores as they are
pub turned_else : (b : Board) (c other : ℕ) → other ≢ c → slice_get (turned_board b c).cores other ≡ slice_get b.cores other
turned_else b c other apart = get_set_else b.cores c other (turn (core_at b.cores c) b.world).core apart

pub turned_other : (b : Board) (c other : ℕ) → other ≢ c → core_at (turned_board b c).cores other ≡ core_at b.cores other
turned_other b c other apart = same_at_place (turned_board b c).cores b.cores other (turned_else b c other apart)

pub turned_length : (b : Board) (c : ℕ) → length (turned_board b c).cores ≡ length b.cores
turned_length b c = length-set b.cores c (turn (core_at b.cores c) b.world).core

pub turned_here : (b : Board) (c : ℕ) → c < length b.cores → core_at (turned_board b c).cores c ≡ (turn (core_at b.cores c) b.world).core
turned_here b c h = at_get (turned_board b c).cores c ∙ ap or_no_core (get_set_here b.cores c (turn (core_at b.cores c) b.world).core h)

pub count_none : (c : ℕ) → count c [] ≡ 0
unfolding count
count_none c = refl

pub count_append : (c : ℕ) (xs ys : List ℕ) → count c (xs ++ ys) ≡ count c xs + count c ys
unfolding count
count_append c [] ys = omega arith
count_append c (x ∷ xs) ys = omega (arith, count_append c xs ys)

pub count_same : (c : ℕ) → count c (c ∷ []) ≡ 1
unfolding count
count_same c = rw (eq-eqb c c refl) refl

pub count_other : (c n : ℕ) → n ≢ c → count c (n ∷ []) ≡ 0
unfolding count
count_other c n other = rw (ne_eqb n c other) refl

pub count_cons : (c x : ℕ) (xs : List ℕ) → count c (x ∷ xs) ≡ count c (x ∷ []) + count c xs
count_cons c x xs = count_append c (x ∷ []) xs

-- turns of other cores leave a core as it is
pub fold_same : (b : Board) (zs : List ℕ) (c : ℕ) → count c zs ≡ 0 → slice_get (fold_turns b zs).cores c ≡ slice_get b.cores c
unfolding fold_turns
fold_same b [] c none = refl
fold_same b (z ∷ zs) c none = let sum = count_cons c z zs in dite (ℕ_discrete z c)
    (λ e. let one : count c (z ∷ []) ≡ 1 = ap (λ (y : ℕ). count c (y ∷ [])) e ∙ count_same c in absurd (omega arith))
    (λ other. let rest : count c zs ≡ 0 = omega arith in fold_same (turned_board b z) zs c rest ∙ turned_else b z c (λ e. other (sym e)))

pub entries_leave_core : (b first last : Board) (turns later : List ℕ) (c : ℕ) → replay b turns ≡ Some first → replay b (turns ++ later) ≡ Some last
    → count c turns ≡ count c (turns ++ later) → slice_get first.cores c ≡ slice_get last.cores c
entries_leave_core b first last turns later c one two same =
    let none : count c later ≡ 0 = omega (arith, count_append c turns later) in
    let a = (replay_folds b first turns one).1 in let z = (replay_folds b last (turns ++ later) two).1 in
    ap (λ (d : Board). slice_get d.cores c) a ∙ (sym (fold_same (fold_turns b turns) later c none) ∙ ap (λ (d : Board). slice_get d.cores c) (sym (fold_append b turns later) ∙ sym z))

pub others_stay : (old new : Board) (c other : ℕ) → board_turned old c ≡ Some new → other ≢ c → slice_get new.cores other ≡ slice_get old.cores other
others_stay old new c other e apart = ap (λ (d : Board). slice_get d.cores other) (turned_only old new c e).1 ∙ turned_else old c other apart

-- a beginning of a replay that is defined
and_then_some : (o : Option Board) (next : Board → Option Board) (last : Board) → and_then o next ≡ Some last → (b : Board) × (o ≡ Some b) × (next b ≡ Some last)
and_then_some None next last e = absurd cc
and_then_some (Some b) next last e = (b, refl, e)

replay_begins : (b last : Board) (xs ys : List ℕ) → replay b (xs ++ ys) ≡ Some last → (m : Board) × (replay b xs ≡ Some m)
replay_begins b last [] ys e = (b, refl)
replay_begins b last (x ∷ xs) ys e =
    let t = and_then_some (board_turned b x) (λ next. replay next (xs ++ ys)) last e in let m = replay_begins t.0 last xs ys t.2 in
    (m.0, ap (λ (o : Option Board). and_then o (λ next. replay next xs)) t.1 ∙ m.1)

module _ (st : Settings) where
  pub board_none : board_of st [] ≡ first_board st
  unfolding board_of
  board_none = refl

  pub defined_none : IsDefined st []
  unfolding IsDefined board_of
  defined_none = refl

  pub defined_by : (xs : List ℕ) (b : Board) → replay (first_board st) xs ≡ Some b → (board_of st xs ≡ b) × IsDefined st xs
  unfolding IsDefined board_of
  defined_by xs b e = let same : reached (replay (first_board st) xs) ≡ b = ap reached e in (same, e ∙ ap (λ (d : Board). let o : Option Board = Some d in o) (sym same))

  pub replays : (xs : List ℕ) → IsDefined st xs → replay (first_board st) xs ≡ Some (board_of st xs)
  unfolding IsDefined
  replays xs d = d

  pub snoc : (xs : List ℕ) (c : ℕ) → IsDefined st xs → MayTurn (board_of st xs) c → (board_of st (xs ++ c ∷ []) ≡ turned_board (board_of st xs) c) × IsDefined st (xs ++ c ∷ [])
  snoc xs c d may = defined_by (xs ++ c ∷ []) (turned_board (board_of st xs) c)
      (replay_one_more (first_board st) (board_of st xs) (turned_board (board_of st xs) c) xs c (replays xs d) (turned_is (board_of st xs) c may))

  pub defined_begins : (xs ys : List ℕ) → IsDefined st (xs ++ ys) → IsDefined st xs
  defined_begins xs ys d = let m = replay_begins (first_board st) (board_of st (xs ++ ys)) xs ys (replays (xs ++ ys) d) in (defined_by xs m.0 m.1).1

  -- two schedules, of which one begins the other, with equally many entries of a core
  pub prefix_core : (xs zs : List ℕ) (c : ℕ) → IsDefined st (xs ++ zs) → count c xs ≡ count c (xs ++ zs) → core_at (board_of st xs).cores c ≡ core_at (board_of st (xs ++ zs)).cores c
  prefix_core xs zs c d same = same_at_place (board_of st xs).cores (board_of st (xs ++ zs)).cores c
      (entries_leave_core (first_board st) (board_of st xs) (board_of st (xs ++ zs)) xs zs c (replays xs (defined_begins xs zs d)) (replays (xs ++ zs) d) same)
