-- Units that have worked, put together one after another.
use Rattle.std.proofs.Common.{◌≡◌, ℕ, zero, suc, ◌+◌, ◌<◌, true, List, [], ◌∷◌, ◌++◌, length, get_or, None, Some, refl, sym, ap, ◌∙◌, subst, arith}
use mathlib.Core.Logic.{dite}
use native.Mathlib.Decide.{ℕ_discrete, dec_lt}
use Rattle.atomic_table.specs.Seated.{TableId}
use Rattle.std.specs.Prelude.{slice_get}
use Rattle.std.specs.List.{All}
use Rattle.or_words.specs.Settings.{Fits}
use Rattle.or_sched.specs.Schedule.{IsSchedule, AreMarks}
use Rattle.or_model.specs.Core.{Core}
use Rattle.or_replay.specs.Board.{all_stopped}
use Rattle.or_replay.proofs.Stopped.{each_stopped}
use Rattle.or_replay.proofs.Schedules.{start_marks, some_turn}
use Rattle.or_turn.specs.declared.view.Settings.{Settings}
use Rattle.or_turn.specs.declared.view.View.{View}
use Rattle.or_turn.specs.declared.shared.Closed.{Closed}
use Rattle.or_turn.specs.declared.unit.TurnUnit.{TurnUnit}
use Rattle.or_turn.specs.Schedules.{first_board, core_at, count, IsDefined, board_of}
use Rattle.or_turn.specs.Rule as rule
use Rattle.or_turn.specs.Rule.{longer}
use Rattle.or_turn.specs.Told.{both_view}
use Rattle.or_turn.specs.SeatViews.{core_of}
use Rattle.or_turn.specs.Units.{view, begun, Fresh}
use Rattle.or_turn.specs.Ends.{IsClosedBy}
use Rattle.or_turn.proofs.Lengths.{AllBelow}
use Rattle.or_turn.proofs.Replays.{replays, defined_none, count_none, count_same, count_append, at_get, or_no_core}
use Rattle.or_turn.proofs.Steps.{sound, entries_below, few_turns}
use Rattle.or_turn.proofs.Counts.{core_told, count_one}
use Rattle.or_turn.proofs.Joining.{longer_has}
use Rattle.or_board.specs.Works.{Worked, Starts, HasFrom, IsThreadedRun}

-- what the opening gives may be worked
pub fresh_starts : (z : TableId) (st : Settings) (n : ℕ) (u : TurnUnit) → Fresh z st n u → n < st.config.cores → Starts z st n u
fresh_starts z st n u f h = record {
  works = record {
    of = f.of;
    settings = ap (λ (v : View). v.settings) f.view_is;
    cores_are = ap (λ (v : View). v.cores) f.view_is;
    rests = f.rests;
    defined = subst (λ (v : View). IsDefined st v.seen) (sym f.view_is) (defined_none st);
  };
  none = ap (λ (v : View). count n v.seen) f.view_is ∙ count_none n;
  below = h;
}

-- the last of a list, and the others
last_is : (ys : List TurnUnit) (u d : TurnUnit) → get_or (ys ++ u ∷ []) (length ys) d ≡ u
last_is [] u d = refl
last_is (y ∷ ys) u d = last_is ys u d

others_are : (ys : List TurnUnit) (u d : TurnUnit) (n : ℕ) → n < length ys → get_or (ys ++ u ∷ []) n d ≡ get_or ys n d
others_are [] u d n h = absurd (omega arith)
others_are (y ∷ ys) u d zero h = refl
others_are (y ∷ ys) u d (suc n) h = others_are ys u d n (omega arith)

pub popped : (P : ℕ → TurnUnit → Type 0) (xs ys : List TurnUnit) (u : TurnUnit) → xs ≡ ys ++ u ∷ [] → ((n : ℕ) (d : TurnUnit) → n < length ys + 1 → P n (get_or xs n d))
    → ((n : ℕ) (d : TurnUnit) → n < length ys → P n (get_or ys n d)) × P (length ys) u
popped P xs ys u e all = (
  (λ n d h. subst (P n) (ap (λ (l : List TurnUnit). get_or l n d) e ∙ others_are ys u d n h) (all n d (omega arith))),
  subst (P (length ys)) (ap (λ (l : List TurnUnit). get_or l (length ys) u) e ∙ last_is ys u u) (all (length ys) u (omega arith)),
)

has_one : (c : ℕ) (cores : List ℕ) → cores ≡ c ∷ [] → 0 < count c cores
has_one c cores e = let one : count c cores ≡ 1 = ap (count c) e ∙ count_same c in omega arith

only_one : (n c : ℕ) (cores : List ℕ) → cores ≡ n ∷ [] → 0 < count c cores → n ≡ c
only_one n c cores e h = count_one c n (subst (λ (l : List ℕ). 0 < count c l) e h)

-- core c of a view has stopped
abbrev Stops : View → ℕ → Type 0
Stops v c = (core_of v c).stop ≡ None → ⊥

only_stops : (z : TableId) (st : Settings) (n c : ℕ) (u : TurnUnit) → Worked z st n u → 0 < count c (view u).cores → Stops (view u) c
only_stops z st n c u w h = subst (Stops (view u)) (only_one n c (view u).cores w.works.cores_are h) w.stopped

pub worked_has : (z : TableId) (st : Settings) (n : ℕ) (u : TurnUnit) → Worked z st n u → n + 1 ≡ st.config.cores → HasFrom z st n u
worked_has z st n u w last = record {
  of = w.works.of;
  settings = w.works.settings;
  rests = w.works.rests;
  has = λ c low high. let e : n ≡ c = omega arith in subst (λ (x : ℕ). 0 < count x (view u).cores) e (has_one n (view u).cores w.works.cores_are);
  stopped = λ c h. only_stops z st n c u w h;
  defined = w.works.defined;
}

core_moves : (st : Settings) (v u : View) (c : ℕ) → v.settings ≡ st → u.settings ≡ st → IsDefined st u.seen → rule.Begins v.seen u.seen → count c v.seen ≡ count c u.seen → core_of v c ≡ core_of u c
unfolding core_of
core_moves st v u c a b defined first same = ap (λ (x : Settings). core_at (board_of x v.seen).cores c) a ∙ (core_told st v.seen u.seen c defined first same ∙ ap (λ (x : Settings). core_at (board_of x u.seen).cores c) (sym b))

stops_on : (v u : View) (c : ℕ) → core_of v c ≡ core_of u c → Stops v c → Stops u c
stops_on v u c same stops none = stops (ap (λ (k : Core). k.stop) same ∙ none)

pub joined_has : (z : TableId) (st : Settings) (n : ℕ) (last unit new : TurnUnit) → HasFrom z st (n + 1) last → Worked z st n unit → new.seat.table_id ≡ z → begun new ≡ None → view new ≡ both_view (view last) (view unit)
    → rule.Begins (view last).seen (view new).seen → rule.Begins (view unit).seen (view new).seen
    → ((c : ℕ) → 0 < count c (view last).cores → count c (view last).seen ≡ count c (view new).seen) → ((c : ℕ) → 0 < count c (view unit).cores → count c (view unit).seen ≡ count c (view new).seen) → HasFrom z st n new
joined_has z st n last unit new l w of rests is first second told other =
    let cores_are : (view new).cores ≡ (view last).cores ++ (view unit).cores = ap (λ (v : View). v.cores) is in
    let counts : (c : ℕ) → count c (view new).cores ≡ count c (view last).cores + count c (view unit).cores = λ c. ap (count c) cores_are ∙ count_append c (view last).cores (view unit).cores in
    let settings : (view new).settings ≡ st = ap (λ (v : View). v.settings) is ∙ l.settings in
    let defined : IsDefined st (view new).seen = subst (IsDefined st) (sym (ap (λ (v : View). v.seen) is)) (longer_has (IsDefined st) (view last).seen (view unit).seen (λ _. w.works.defined) (λ _. l.defined)) in record {
      of = of;
      settings = settings;
      rests = rests;
      has = λ c low high. let sum = counts c in dite (ℕ_discrete n c)
          (λ e. let h : 0 < count c (view unit).cores = subst (λ (x : ℕ). 0 < count x (view unit).cores) e (has_one n (view unit).cores w.works.cores_are) in omega arith)
          (λ ne. let h = l.has c (omega arith) high in omega arith);
      stopped = λ c h. let sum = counts c in dite (dec_lt 0 (count c (view last).cores))
          (λ p. stops_on (view last) (view new) c (core_moves st (view last) (view new) c l.settings settings defined first (told c p)) (l.stopped c p))
          (λ no. let p : 0 < count c (view unit).cores = omega arith in
          stops_on (view unit) (view new) c (core_moves st (view unit) (view new) c w.works.settings settings defined second (other c p)) (only_stops z st n c unit w p));
      defined = defined;
    }

got_inside : (cores : List Core) (c : ℕ) (core : Core) → slice_get cores c ≡ Some core → c < length cores
got_inside [] c core found = absurd (let b : ⊥ = cc in b)
got_inside (first ∷ cores) zero core found = omega arith
got_inside (first ∷ cores) (suc c) core found = let i = got_inside cores c core found in omega arith

pub all_of : (n : ℕ) (xs : List ℕ) → AllBelow n xs → All (λ x. x < n) xs
all_of n [] below k d h = absurd (omega arith)
all_of n (x ∷ xs) below zero d h = below.0
all_of n (x ∷ xs) below (suc k) d h = all_of n xs below.1 k d (omega arith)

-- the run that is closed by a unit which has every core, stopped
module _ (z : TableId) (st : Settings) (fits : Fits st.config) (last : TurnUnit) (end : Closed) (l : HasFrom z st 0 last) (e : IsClosedBy (view last) end) where
  abbrev v : View
  v = view last

  defined : IsDefined st end.schedule.items
  defined = subst (λ (x : Settings). IsDefined x end.schedule.items) l.settings e.defined

  cores_are : end.cores.items ≡ (board_of st end.schedule.items).cores
  cores_are = e.cores ∙ ap (λ (x : Settings). (board_of x end.schedule.items).cores) l.settings

  each_stops : (c : ℕ) (core : Core) → slice_get (board_of st end.schedule.items).cores c ≡ Some core → core.stop ≡ None → ⊥
  unfolding core_of
  each_stops c core found none =
      let inside : c < st.config.cores = let i = got_inside (board_of st end.schedule.items).cores c core found in let m = (sound st fits end.schedule.items defined).as_many in omega arith in
      let few : c < v.settings.config.cores = subst (λ (x : Settings). c < x.config.cores) (sym l.settings) inside in
      let at : core_at (board_of st end.schedule.items).cores c ≡ core = at_get (board_of st end.schedule.items).cores c ∙ ap or_no_core found in
      let told : core_of v c ≡ core_at (board_of st end.schedule.items).cores c = ap (λ (x : Settings). core_at (board_of x v.seen).cores c) l.settings ∙ core_told st v.seen end.schedule.items c defined e.begins (e.told c few) in
      l.stopped c (l.has c (omega arith) inside) (ap (λ (k : Core). k.stop) (told ∙ at) ∙ none)

  stopped : all_stopped (board_of st end.schedule.items).cores ≡ true
  stopped = each_stopped (board_of st end.schedule.items).cores (λ c core found. each_stops c core found)

  marks_are : end.marks.items ≡ Rattle.or_replay.specs.Marks.marks (first_board st) end.schedule.items
  marks_are = e.marks ∙ ap (λ (x : Settings). Rattle.or_replay.specs.Marks.marks (first_board x) end.schedule.items) l.settings

  pub end_run : IsThreadedRun (first_board st) end
  end_run = record {
    last = board_of st end.schedule.items;
    replayed = replays st end.schedule.items defined;
    is = record { same_cores = cores_are; represents = subst (λ (x : Settings). Rattle.or_bus.specs.Represents.Represents end.bus (board_of x end.schedule.items).world) l.settings e.bus };
    stopped = stopped;
    marks_are = marks_are;
  }

  pub end_schedule : IsSchedule st.config end.schedule.items
  end_schedule = record {
    some_turn = some_turn st.config st.image st.input end.schedule.items (board_of st end.schedule.items) fits (replays st end.schedule.items defined) stopped;
    few_turns = few_turns st fits end.schedule.items defined;
    cores = all_of st.config.cores end.schedule.items (entries_below st fits end.schedule.items defined);
  }

  pub end_marks : AreMarks end.schedule.items end.marks.items
  end_marks = subst (AreMarks end.schedule.items) (sym marks_are) (start_marks st.config st.image st.input end.schedule.items)
