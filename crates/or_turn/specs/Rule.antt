-- The rule of the turn.
use Rattle.std.specs.Prelude.{◌≡◌, ◌⊎◌, ℕ, ◌+◌, ◌-◌, ◌*◌, ◌/◌, ◌<◌, ◌≤◌, Bool, true, false, List, [], ◌∷◌, ◌++◌, length, All, Option, Some, None, vec_capacity, leb, if◌then◌else◌}
use mathlib.Core.Option.{some, none}
use lib.ListN.{get_elem?}
use Rattle.atomic_table.specs.Table.{State}
use Rattle.or_words.specs.Settings.{Fits}
use Rattle.or_words.specs.declared.limits.TheConstants.{BLOCK}
use Rattle.or_bus.specs.Represents.{Represents}
use Rattle.or_sched.specs.Runs.{expand}
use Rattle.or_replay.specs.Marks.{marks}
use Rattle.or_turn.specs.declared.view.Transfer.{Transfer}
use Rattle.or_turn.specs.declared.view.OpenedWith.{OpenedWith}
use Rattle.or_turn.specs.declared.view.Settings.{Settings}
use Rattle.or_turn.specs.declared.view.JoinedHalves.{JoinedHalves}
use Rattle.or_turn.specs.declared.view.Stage.{Stage}
use Rattle.or_turn.specs.declared.view.Stage.TheVariants.{Idle, Waits, Holds, Joined, Spent}
use Rattle.or_turn.specs.declared.view.View.{View}
use Rattle.or_turn.specs.Schedules.{first_board, board_of, IsDefined, count, core_at}

-- the second list begins with the first
abbrev pub Begins : List ℕ → List ℕ → Type 0
Begins xs ys = (rest : List ℕ) × (ys ≡ xs ++ rest)

abbrev pub settings_of : OpenedWith → Settings
settings_of k = record { config = k.config; image = k.image.bytes; input = k.input.bytes }

abbrev pub first_view : OpenedWith → View
first_view k = record { settings = settings_of k; cores = []; seen = []; opening = Some 0; stage = Idle }

-- settings that no board has
abbrev pub no_settings : Settings
no_settings = record { config = record { cores = 0; budget = 0; ram = 0; latched = false }; image = []; input = [] }

abbrev pub spent_view : View
spent_view = record { settings = no_settings; cores = []; seen = []; opening = None; stage = Spent }

-- the most turns that a board can make
abbrev pub most_turns : Settings → ℕ
most_turns st = st.config.cores * st.config.budget

-- what lies in the slot, for a schedule: the bus, the schedule and its marks, with room for all that may come
pub record SlotHolds (st : Settings) (turns : List ℕ) (transfer : Transfer) : Type 0 where
  pub bus : Represents transfer.bus.value (board_of st turns).world
  pub cores : transfer.bus.value.cores ≡ st.config.cores
  pub schedule : transfer.schedule.items ≡ turns
  pub marks : transfer.marks.items ≡ marks (first_board st) turns
  pub console_room : most_turns st ≤ length turns + transfer.bus.value.spare
  pub schedule_room : most_turns st ≤ vec_capacity transfer.schedule
  pub marks_room : most_turns st / BLOCK ≤ vec_capacity transfer.marks

-- A stay is the time from a unit's taking the bus until it gives it back: a core, and how many turns it made. Each stay has
-- at least one turn, and the schedule is their turns, one stay behind the other.
pub record AreStays (stays : List (ℕ × ℕ)) (schedule : List ℕ) : Type 0 where
  pub some_turn : All (λ stay. 1 ≤ stay.1) stays
  pub turns : expand stays ≡ schedule

-- what there is at one moment
pub record Witness : Type 0 where
  -- the turns so far, and the stays in which they were made
  pub schedule : List ℕ
  pub stays : List (ℕ × ℕ)
  -- the cores whose tickets wait, in the order of these
  pub queue : List ℕ
  pub enrolled : ℕ
  -- which seat has a core, and which has the opener token
  pub owner : ℕ → ℕ
  pub opener : ℕ
  -- whether a seat holds the slot
  pub held : Bool

abbrev pub longer : List ℕ → List ℕ → List ℕ
longer xs ys = if leb (length xs) (length ys) then ys else xs

-- what two units had, of which one has been made and has not looked since
pub record AreJoined (schedule cores seen : List ℕ) (h : JoinedHalves) : Type 0 where
  pub settings : h.other_settings ≡ h.settings
  pub cores_are : cores ≡ h.cores ++ h.other_cores
  pub seen_is : seen ≡ longer h.seen h.other_seen
  pub first : Begins h.seen schedule
  pub second : Begins h.other_seen schedule
  pub told : (c : ℕ) → 0 < count c h.cores → count c h.seen ≡ count c schedule
  pub other_told : (c : ℕ) → 0 < count c h.other_cores → count c h.other_seen ≡ count c schedule

-- what a stage says
abbrev pub StageHolds : Witness → List ℕ → List ℕ → Stage → Type 0
StageHolds n cores seen Idle = Unit {0}
StageHolds n cores seen (Waits t) = (c : ℕ) × (cores ≡ c ∷ []) × (length n.stays ≤ t) × (get_elem? n.queue (t - length n.stays) ≡ some c)
StageHolds n cores seen Holds = (c : ℕ) × (cores ≡ c ∷ []) × (seen ≡ n.schedule) × (get_elem? n.queue 0 ≡ some c) × (n.held ≡ true)
StageHolds n cores seen (Joined h) = AreJoined n.schedule cores seen h
StageHolds n cores seen Spent = Unit {0}

-- what is true of the view of the seat j
pub record SeatKnows (st : Settings) (n : Witness) (j : ℕ) (v : View) : Type 0 where
  pub settings : (v ≡ spent_view) ⊎ (v.settings ≡ st)
  pub opening : (k : ℕ) → v.opening ≡ Some k → (j ≡ n.opener) × (k ≡ n.enrolled)
  pub cores : (c : ℕ) → 0 < count c v.cores → (c < n.enrolled) × (n.owner c ≡ j)
  pub once : (c : ℕ) → count c v.cores ≤ 1
  pub seen : Begins v.seen n.schedule
  pub told : (c : ℕ) → 0 < count c v.cores → count c v.seen ≡ count c n.schedule
  pub stage : StageHolds n v.cores v.seen v.stage

-- the view of the core at place i of the queue
abbrev pub InTurn : Witness → ℕ → Stage → Type 0
InTurn n i (Waits t) = t ≡ length n.stays + i
InTurn n i Holds = i ≡ 0
InTurn n i _ = ⊥

abbrev pub IsHolder : Stage → Type 0
IsHolder Holds = Unit {0}
IsHolder _ = ⊥

-- the seat j has a view of which this is true
abbrev pub Has : List View → ℕ → (View → Type 0) → Type 0
Has vs j P = (v : View) × (get_elem? vs j ≡ some v) × P v

-- home with what the schedule says, or out with a seat that holds
abbrev pub SlotIs : Settings → Witness → Bool → State (Option Transfer) View → Type 0
SlotIs st n false s = (transfer : Transfer) × (s.homes ≡ some (Some transfer) ∷ []) × SlotHolds st n.schedule transfer
SlotIs st n true s = (s.homes ≡ none ∷ []) × ((j : ℕ) × Has s.views j (λ v. IsHolder v.stage))

pub record RuleHolds (st : Settings) (s : State (Option Transfer) View) : Type 0 where
  pub fits : Fits st.config
  pub now : Witness
  pub words : s.words ≡ (length now.stays + length now.queue) ∷ length now.stays ∷ now.enrolled ∷ []
  pub are_stays : AreStays now.stays now.schedule
  pub most : now.enrolled ≤ st.config.cores
  pub defined : IsDefined st now.schedule
  pub others : (c : ℕ) → now.enrolled ≤ c → count c now.schedule ≡ 0
  pub queued : (i c : ℕ) → get_elem? now.queue i ≡ some c → (c < now.enrolled) × ((core_at (board_of st now.schedule).cores c).stop ≡ None)
  pub once : (c : ℕ) → count c now.queue ≤ 1
  pub owned : (c : ℕ) → c < now.enrolled → Has s.views (now.owner c) (λ v. 0 < count c v.cores)
  pub waiting : (i c : ℕ) → get_elem? now.queue i ≡ some c → Has s.views (now.owner c) (λ v. InTurn now i v.stage)
  pub each : (j : ℕ) (v : View) → get_elem? s.views j ≡ some v → SeatKnows st now j v
  pub slot : SlotIs st now now.held s

-- the rule of the table
abbrev pub Turns : OpenedWith → State (Option Transfer) View → Type 0
Turns k = RuleHolds (settings_of k)
