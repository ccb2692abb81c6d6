-- What each step tells its caller.
use Rattle.std.specs.Prelude.{◌≡◌, ◌≢◌, ℕ, ◌+◌, ◌<◌, ◌≤◌, List, [], ◌∷◌, ◌++◌, length, Option, Some, None}
use Rattle.atomic_table.specs.Table.{Me, Step}
use Rattle.or_words.specs.Settings.{Fits}
use Rattle.or_turn.specs.declared.view.Transfer.{Transfer}
use Rattle.or_turn.specs.declared.view.Settings.{Settings}
use Rattle.or_turn.specs.declared.view.JoinedHalves.{JoinedHalves}
use Rattle.or_turn.specs.declared.view.Stage.{Stage}
use Rattle.or_turn.specs.declared.view.Stage.TheVariants.{Idle, Waits, Holds, Joined}
use Rattle.or_turn.specs.declared.view.View.{View}
use Rattle.or_turn.specs.Schedules.{board_of, IsDefined, count, core_at}
use Rattle.or_turn.specs.Rule.{Begins, SlotHolds, longer, most_turns}

-- a seat's view, with the slots that it has taken
abbrev pub SeatState : Type 0
SeatState = Me (Option Transfer) View

abbrev pub TableStep : Type 0
TableStep = Step (Option Transfer)

abbrev pub enrolled_view : View → ℕ → View
enrolled_view v n = record v { cores = n ∷ []; opening = Some (n + 1) }

abbrev pub waiting_view : View → ℕ → View
waiting_view v t = record v { stage = Waits t }

abbrev pub holding_view : View → List ℕ → View
holding_view v schedule = record v { seen = schedule; stage = Holds }

abbrev pub done_view : View → List ℕ → View
done_view v schedule = record v { seen = schedule; stage = Idle }

-- what the old seat keeps, and what the new one gets
abbrev pub closed_view : View → View
closed_view v = record v { opening = None }

abbrev pub next_view : View → View
next_view v = record v { cores = []; seen = []; stage = Idle }

abbrev pub either_mark : Option ℕ → Option ℕ → Option ℕ
either_mark None m = m
either_mark (Some n) m = Some n

abbrev pub halves : View → View → JoinedHalves
halves v w = record { settings = v.settings; cores = v.cores; seen = v.seen; other_settings = w.settings; other_cores = w.cores; other_seen = w.seen }

-- two views at one seat: the cores of both, and the longer beginning of the schedule
abbrev pub both_view : View → View → View
both_view v w = record v { cores = v.cores ++ w.cores; seen = longer v.seen w.seen; opening = either_mark v.opening w.opening }

-- the same, where the seat has not looked since
abbrev pub joined_view : View → View → View
joined_view v w = record (both_view v w) { stage = Joined (halves v w) }

abbrev pub ticket : Stage → ℕ
ticket (Waits t) = t
ticket _ = 0

-- the old word is the seat's count, and the number of its core
abbrev pub enrolled : TableStep → SeatState → ℕ → SeatState → Type 0
enrolled step m n m' = (m'.1 ≡ m.1) × (m'.0 ≡ enrolled_view m.0 n) × (m.0.opening ≡ Some n)

-- where the old word is the one that was asked for, it is the ticket; else nothing changes
abbrev pub drew : TableStep → SeatState → ℕ → SeatState → Type 0
drew step m n m' = (n ≡ step.first → (m'.1 ≡ m.1) × (m'.0 ≡ waiting_view m.0 n)) × (n ≢ step.first → m' ≡ m)

-- the bus is the seat's
pub record TakesBus (v : View) (m' : SeatState) : Type 0 where
  pub schedule : List ℕ
  pub transfer : Transfer
  pub slots : m'.1 ≡ (0, Some transfer) ∷ []
  pub view : m'.0 ≡ holding_view v schedule
  pub fits : Fits v.settings.config
  pub begins : Begins v.seen schedule
  pub defined : IsDefined v.settings schedule
  pub holds : SlotHolds v.settings schedule transfer
  pub left : length schedule < most_turns v.settings
  pub told : (c : ℕ) → 0 < count c v.cores → (c < v.settings.config.cores) × (count c v.seen ≡ count c schedule) × ((core_at (board_of v.settings schedule).cores c).stop ≡ None)

abbrev pub looked : TableStep → SeatState → ℕ → SeatState → Type 0
looked step m n m' = (n ≡ ticket m.0.stage → TakesBus m.0 m') × (n ≢ ticket m.0.stage → m' ≡ m)

-- the seat gives its slot back, and has seen the schedule that lies there
abbrev pub finished : TableStep → SeatState → ℕ → SeatState → Type 0
finished step m n m' = (m'.1 ≡ []) × ((transfer : Transfer) → m.1 ≡ (0, Some transfer) ∷ [] → m'.0 ≡ done_view m.0 transfer.schedule.items)

-- what is learned of two views that were joined
pub record JoinConfirmed (st : Settings) (cores seen : List ℕ) (h : JoinedHalves) : Type 0 where
  pub settings : h.other_settings ≡ h.settings
  pub fits : Fits st.config
  pub below : (c : ℕ) → 0 < count c cores → c < st.config.cores
  pub once : (c : ℕ) → count c cores ≤ 1
  pub defined : IsDefined st seen
  pub first : Begins h.seen seen
  pub second : Begins h.other_seen seen
  pub told : (c : ℕ) → 0 < count c h.cores → count c h.seen ≡ count c seen
  pub other_told : (c : ℕ) → 0 < count c h.other_cores → count c h.other_seen ≡ count c seen

abbrev pub confirmed : TableStep → SeatState → ℕ → SeatState → Type 0
confirmed step m n m' = (m'.1 ≡ m.1) × (m'.0 ≡ record m.0 { stage = Idle }) × ((h : JoinedHalves) → m.0.stage ≡ Joined h → JoinConfirmed m.0.settings m.0.cores m.0.seen h)
