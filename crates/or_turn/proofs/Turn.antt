-- A turn at the bus, from the answer of its first half to the new schedule.
use Rattle.std.proofs.Common.{◌≡◌, ◌≢◌, ℕ, ◌+◌, ◌*◌, ◌/◌, ◌%◌, ◌<◌, ◌≤◌, Bool, true, false, List, [], ◌∷◌, ◌++◌, length, replicate, refl, sym, ap, ◌∙◌, subst, arith, length-append, append_assoc, vec_len, vec_capacity, Option, Some, None}
use Rattle.std.proofs.lemmas.List.{replicate_more}
use Rattle.or_sched.specs.declared.recording.Mark.{Mark}
use Rattle.or_model.specs.Core.{Core}
use Rattle.or_model.specs.World.{World}
use Rattle.or_model.specs.DataAccess.{State}
use Rattle.or_model.specs.Turn.{Board, turn_begun, turn_ended, turn}
use Rattle.or_model.proofs.Turns.{Begins, turn_begun-begins}
use Rattle.or_bus.specs.State.{BusState}
use Rattle.or_bus.specs.Represents.{Represents}
use Rattle.or_core.specs.Follows.{IsState, KeepsBus}
use Rattle.or_replay.specs.Marks.{marks, with_mark}
use Rattle.or_replay.proofs.Replaying.{length_marks}
use Rattle.or_turn.specs.declared.view.Settings.{Settings}
use Rattle.or_turn.specs.declared.view.Transfer.{Transfer}
use Rattle.or_turn.specs.declared.view.Stage.TheVariants.{Idle}
use Rattle.or_turn.specs.declared.view.View.{View}
use Rattle.or_turn.specs.Schedules.{first_board, board_of, IsDefined, count, core_at}
use Rattle.or_turn.specs.Told.{SeatState, TakesBus, holding_view, done_view}
use Rattle.or_turn.specs.SeatViews.{core_of, only_of, begun_core, HasBegun, Turned}
use Rattle.or_turn.specs.Stays.{turn_from, HasBus, HasBusBegun, MadeTurns}
use Rattle.or_turn.proofs.Replays.{MayTurn, turned_board, turned_here, snoc, count_append}
use Rattle.or_turn.proofs.Steps.{Sound, sound}
use Rattle.or_turn.proofs.Blocks.{marks_more}
use Rattle.or_turn.proofs.Counts.{core_told}
use Rattle.or_turn.proofs.Stays.{count_stay}
use Rattle.or_turn.proofs.Waiting.{only, left_over}

turn_is : (k : Core) (w : World) → turn k w ≡ turn_ended (turn_begun k).core w (turn_begun k).follows
unfolding turn
turn_is k w = refl

-- a mark is added where there is room for it
pub mark_room : (made most room marked : ℕ) → marked ≡ made / 65536 → made < most → most / 65536 ≤ room → (made + 1) % 65536 ≡ 0 → marked < room
mark_room made most room marked is left fits ends = omega arith

-- what a turn, or the rest of one, does to the core and to what is out of the slot
abbrev pub Ends : Transfer → Core → Option Bool → Transfer → Core → Type 0
Ends old core begun new done = ((world : World) → Represents old.bus.value world → IsState (turn_from begun core world) done new.bus.value) × KeepsBus old.bus.value new.bus.value
    × (new.schedule.items ≡ old.schedule.items ++ core.number ∷ [])
    × ((world : World) → Represents new.bus.value world → new.marks.items ≡ with_mark (vec_len old.schedule + 1) world old.marks.items)
    × (vec_capacity new.schedule ≡ vec_capacity old.schedule) × (vec_capacity new.marks ≡ vec_capacity old.marks)

is_true : (follows : Bool) → Some follows ≢ Some false → follows ≡ true
is_true true some = refl
is_true false some = absurd (some refl)

-- a core that has the bus and runs
module _ (st : Settings) (turns : List ℕ) (c : ℕ) (core : Core) (old : Transfer) (h : HasBus st turns c core old) (runs : core.stop ≡ None) where
  abbrev b : Board
  b = board_of st turns

  is_sound : Sound c st.config.budget core
  is_sound = subst (Sound c st.config.budget) (sym h.core_is) ((sound st h.fits turns h.defined).each c h.below)

  pub begins : Begins 256 core (turn_begun core)
  begins = turn_begun-begins core is_sound.within

  number_is : core.number ≡ c
  number_is = is_sound.same_number

  pub known : core.number < old.bus.value.cores
  known = let n = number_is in let l = h.below in let e = h.holds.cores in omega arith

  pub small : core.number < 256
  small = let n = number_is in let l = h.below in let f = h.fits.few_cores in omega arith

  stop_none : (core_at b.cores c).stop ≡ None
  stop_none = ap (λ (k : Core). k.stop) (sym h.core_is) ∙ runs

  left : length turns < st.config.cores * st.config.budget
  left = left_over st h.fits turns h.defined c h.below stop_none

  pub console_room : 0 < old.bus.value.spare
  console_room = let l = left in let r = h.holds.console_room in omega arith

  made : vec_len old.schedule ≡ length turns
  made = let n = old.schedule.ok.0 in let e : length old.schedule.items ≡ length turns = ap (λ (xs : List ℕ). length xs) h.holds.schedule in omega arith

  pub schedule_room : vec_len old.schedule < vec_capacity old.schedule
  schedule_room = let l = left in let r = h.holds.schedule_room in let n = made in omega arith

  marked : vec_len old.marks ≡ length turns / 65536
  marked = let n = old.marks.ok.0 in let e : length old.marks.items ≡ length (marks (first_board st) turns) = ap (λ (xs : List Mark). length xs) h.holds.marks in
      let l = length_marks (first_board st) turns in omega arith

  pub marks_room : (vec_len old.schedule + 1) % 65536 ≡ 0 → vec_len old.marks < vec_capacity old.marks
  marks_room ends = mark_room (length turns) (st.config.cores * st.config.budget) (vec_capacity old.marks) (vec_len old.marks) marked left h.holds.marks_room
      (let n = made in omega arith)

  may : MayTurn b c
  may = ((let n = (sound st h.fits turns h.defined).as_many in let l = h.below in omega arith), stop_none)

  one_more : (board_of st (turns ++ c ∷ []) ≡ turned_board b c) × IsDefined st (turns ++ c ∷ [])
  one_more = snoc st turns c h.defined may

  written : turn core b.world ≡ turn (core_at b.cores c) b.world
  written = ap (λ (k : Core). turn k b.world) h.core_is

  world_is : (turn core b.world).world ≡ (board_of st (turns ++ c ∷ [])).world
  world_is = ap (λ (s : State). s.world) written ∙ ap (λ (x : Board). x.world) (sym one_more.0)

  core_after : (turn core b.world).core ≡ core_at (board_of st (turns ++ c ∷ [])).cores c
  core_after = ap (λ (s : State). s.core) written ∙ (sym (turned_here b c may.0) ∙ ap (λ (x : Board). core_at x.cores c) (sym one_more.0))

  pub ends_turn : (new : Transfer) (done : Core) → Ends old core None new done → HasBus st (turns ++ c ∷ []) c done new
  ends_turn new done e =
      let grown = length-append turns (c ∷ []) in
      let bus : Represents new.bus.value (board_of st (turns ++ c ∷ [])).world = subst (Represents new.bus.value) world_is (e.0 b.world h.holds.bus).represents in record {
        fits = h.fits;
        defined = one_more.1;
        below = h.below;
        core_is = (e.0 b.world h.holds.bus).same_core ∙ core_after;
        holds = record {
          bus = bus;
          cores = e.1.cores ∙ h.holds.cores;
          schedule = e.2 ∙ (λ i. h.holds.schedule i ++ number_is i ∷ []);
          marks = e.3 (board_of st (turns ++ c ∷ [])).world bus
              ∙ ((λ i. with_mark (made i + 1) (board_of st (turns ++ c ∷ [])).world (h.holds.marks i)) ∙ sym (marks_more st turns c one_more.1));
          console_room = let r = h.holds.console_room in let k = e.1.spare in omega arith;
          schedule_room = let r = h.holds.schedule_room in let k = e.4 in omega arith;
          marks_room = let r = h.holds.marks_room in let k = e.5 in omega arith;
        };
      }

-- the same in the middle of a turn
module _ (st : Settings) (turns : List ℕ) (c : ℕ) (core : Core) (follows : Bool) (old : Transfer) (h : HasBusBegun st turns c core follows old) where
  first_half : Begins 256 h.before (turn_begun h.before)
  first_half = begins st turns c h.before old h.has h.runs

  pub still_runs : Some follows ≢ Some false → core.stop ≡ None
  still_runs some = ap (λ (k : Core). k.stop) h.core_is ∙ first_half.runs (sym h.follows_is ∙ is_true follows some)

  same_number : core.number ≡ h.before.number
  same_number = ap (λ (k : Core). k.number) h.core_is ∙ first_half.settings.number

  pub still_known : (core.number < old.bus.value.cores) × (core.number < 256)
  still_known = let n = same_number in let k = known st turns c h.before old h.has h.runs in let s = small st turns c h.before old h.has h.runs in (omega arith, omega arith)

  halves : (w : World) → turn_ended core w follows ≡ turn h.before w
  halves w = (λ i. turn_ended (h.core_is i) w (h.follows_is i)) ∙ sym (turn_is h.before w)

  pub ends_begun : (new : Transfer) (done : Core) → Ends old core (Some follows) new done → HasBus st (turns ++ c ∷ []) c done new
  ends_begun new done e = ends_turn st turns c h.before old h.has h.runs new done (
    (λ w r. subst (λ (s : State). IsState s done new.bus.value) (halves w) (e.0 w r)),
    e.1,
    e.2 ∙ ap (λ (n : ℕ). old.schedule.items ++ n ∷ []) same_number,
    e.3,
    e.4,
    e.5,
  )

read_again : (old new : BusState) (world : World) → new ≡ record old { reads = new.reads } → Represents old world → Represents new world
read_again old new world e r = subst (λ (b : BusState). Represents b world) (sym e) (record {
  ram = r.ram;
  devices = r.devices;
  valid = r.valid;
  writes = r.writes;
  lines = r.lines;
  coherent = r.coherent;
  reserved = r.reserved;
  counted = r.counted;
})

-- how often RAM was read does not matter
pub begun_again : (st : Settings) (turns : List ℕ) (c : ℕ) (core : Core) (follows : Bool) (old new : Transfer) → HasBusBegun st turns c core follows old
    → new.bus.value ≡ record old.bus.value { reads = new.bus.value.reads } → new.schedule ≡ old.schedule → new.marks ≡ old.marks → HasBusBegun st turns c core follows new
begun_again st turns c core follows old new h bus schedule marks_are = let k = h.has.holds in record {
  before = h.before;
  has = record {
    fits = h.has.fits;
    defined = h.has.defined;
    below = h.has.below;
    core_is = h.has.core_is;
    holds = record {
      bus = read_again old.bus.value new.bus.value (board_of st turns).world bus k.bus;
      cores = ap (λ (b : BusState). b.cores) bus ∙ k.cores;
      schedule = ap (λ s. s.items) schedule ∙ k.schedule;
      marks = ap (λ m. m.items) marks_are ∙ k.marks;
      console_room = let e = ap (λ (b : BusState). b.spare) bus in let r = k.console_room in omega arith;
      schedule_room = let e = ap (λ s. vec_capacity s) schedule in let r = k.schedule_room in omega arith;
      marks_room = let e = ap (λ m. vec_capacity m) marks_are in let r = k.marks_room in omega arith;
    };
  };
  runs = h.runs;
  core_is = h.core_is;
  follows_is = h.follows_is;
}

-- turns of a stay, and then one more
pub one_turn_more : (st : Settings) (turns : List ℕ) (c : ℕ) (made : ℕ) (done : Core) (new : Transfer) → HasBus st ((turns ++ replicate made c) ++ c ∷ []) c done new → HasBus st (turns ++ replicate (made + 1) c) c done new
one_turn_more st turns c made done new has = subst (λ (l : List ℕ). HasBus st l c done new) (append_assoc turns (replicate made c) (c ∷ []) ∙ ap (λ (l : List ℕ). turns ++ l) (replicate_more made c)) has

module _ (v : View) (follows : Bool) (has : HasBegun v follows) (m : SeatState) (tk : TakesBus v m) where
  abbrev own : ℕ
  own = only_of v

  told : (own < v.settings.config.cores) × (count own v.seen ≡ count own tk.schedule) × ((core_at (board_of v.settings tk.schedule).cores own).stop ≡ None)
  told = tk.told own (only own v.cores has.0)

  -- a unit that has begun, and takes the bus
  pub taken : HasBusBegun v.settings tk.schedule own (begun_core v own) follows tk.transfer
  unfolding core_of
  taken = record {
    before = core_of v own;
    has = record {
      fits = tk.fits;
      defined = tk.defined;
      below = told.0;
      core_is = core_told v.settings v.seen tk.schedule own tk.defined tk.begins told.1;
      holds = tk.holds;
    };
    runs = has.1;
    core_is = refl;
    follows_is = has.2;
  }

  module _ (most : ℕ) (new : Transfer) (done : Core) (stay : MadeTurns v.settings tk.schedule own 1 most done new) where
    abbrev turns : List ℕ
    turns = replicate stay.made own

    abbrev pub after : View
    after = done_view (holding_view v tk.schedule) new.schedule.items

    pub now_seen : after.seen ≡ tk.schedule ++ turns
    now_seen = stay.has.holds.schedule

    pub core_after_stay : done ≡ core_of after own
    unfolding core_of
    core_after_stay = stay.has.core_is ∙ ap (λ (l : List ℕ). core_at (board_of v.settings l).cores own) (sym now_seen)

    pub turned : v.stage ≡ Idle → Turned v after own most
    turned idle = record {
      between = tk.begins.0;
      turns = stay.made;
      some_turn = stay.some;
      few_turns = stay.few;
      seen = now_seen ∙ ap (λ (l : List ℕ). l ++ turns) tk.begins.1;
      own = ap (count own) now_seen ∙ (let a = count_append own tk.schedule turns in let o = count_stay own stay.made in let e = told.1 in omega arith);
      same = λ i. record v { seen = after.seen; stage = sym idle i };
      defined = subst (λ (l : List ℕ). IsDefined v.settings l) (sym now_seen) stay.has.defined;
    }
