-- The rule of the turn, part by part, in the words of the table alone: what any moment between two steps is like.
use Rattle.std.specs.Prelude.{◌≡◌, ℕ, ◌<◌, ◌≤◌, List, [], ◌∷◌, length, slice_index, Option, Some, None}
use mathlib.Core.Option.{some, none}
use lib.ListN.{get_elem?}
use Rattle.atomic_table.specs.Table.{State}
use Rattle.or_turn.specs.declared.view.Transfer.{Transfer}
use Rattle.or_turn.specs.declared.view.Settings.{Settings}
use Rattle.or_turn.specs.declared.view.Stage.{Stage}
use Rattle.or_turn.specs.declared.view.Stage.TheVariants.{Waits, Holds, Spent}
use Rattle.or_turn.specs.declared.view.View.{View}
use Rattle.or_turn.specs.Schedules.{board_of, IsDefined, count, core_at}
use Rattle.or_turn.specs.Rule.{Begins, SlotHolds, AreStays, IsHolder, Has}

-- the seat j has the view v
abbrev pub At : State (Option Transfer) View → ℕ → View → Type 0
At s j v = get_elem? s.views j ≡ some v

-- it has a ticket: its own where it waits, and the one that is served where it holds
abbrev pub HasTicket : ℕ → ℕ → Stage → Type 0
HasTicket serving t (Waits u) = u ≡ t
HasTicket serving t Holds = serving ≡ t
HasTicket serving t _ = ⊥

pub record Parts (st : Settings) (s : State (Option Transfer) View) : Type 0 where
  pub schedule : List ℕ
  pub stays : List (ℕ × ℕ)
  -- one view has the opener token, the enrolled cores are in one view each, and no other core has made a turn
  pub one_mark : (i j a b : ℕ) (v w : View) → At s i v → At s j w → v.opening ≡ Some a → w.opening ≡ Some b → i ≡ j
  pub mark_counts : (j a : ℕ) (v : View) → At s j v → v.opening ≡ Some a → a ≡ slice_index s.words 2
  pub enrolled_most : slice_index s.words 2 ≤ st.config.cores
  pub only_enrolled : (j c : ℕ) (v : View) → At s j v → 0 < count c v.cores → c < slice_index s.words 2
  pub each_enrolled : (c : ℕ) → c < slice_index s.words 2 → (j : ℕ) × Has s.views j (λ v. 0 < count c v.cores)
  pub in_one : (i j c : ℕ) (v w : View) → At s i v → At s j w → 0 < count c v.cores → 0 < count c w.cores → i ≡ j
  pub once : (j c : ℕ) (v : View) → At s j v → count c v.cores ≤ 1
  pub none_else : (c : ℕ) → slice_index s.words 2 ≤ c → count c schedule ≡ 0
  -- all views have the settings of the opening
  pub same_settings : (j : ℕ) (v : View) → At s j v → (v.stage ≡ Spent → ⊥) → v.settings ≡ st
  -- the tickets that are out are those from the one that is served up to the next one, each once, each of one core that has not stopped
  pub served : slice_index s.words 1 ≡ length stays
  pub ticket_between : (j t : ℕ) (v : View) → At s j v → HasTicket (slice_index s.words 1) t v.stage → (slice_index s.words 1 ≤ t) × (t < slice_index s.words 0)
  pub each_ticket : (t : ℕ) → slice_index s.words 1 ≤ t → t < slice_index s.words 0 → (j : ℕ) × Has s.views j (λ v. HasTicket (slice_index s.words 1) t v.stage)
  pub one_ticket : (i j t : ℕ) (v w : View) → At s i v → At s j w → HasTicket (slice_index s.words 1) t v.stage → HasTicket (slice_index s.words 1) t w.stage → i ≡ j
  pub one_core : (j t : ℕ) (v : View) → At s j v → HasTicket (slice_index s.words 1) t v.stage → (c : ℕ) × (v.cores ≡ c ∷ []) × ((core_at (board_of st schedule).cores c).stop ≡ None)
  -- the slot is home with the bus, the schedule, its marks and the room for all that may come, or out with the one holder
  pub home : ((j : ℕ) → Has s.views j (λ v. IsHolder v.stage) → ⊥) → (transfer : Transfer) × (s.homes ≡ some (Some transfer) ∷ []) × SlotHolds st schedule transfer
  pub holder_seen : (j : ℕ) (v : View) → At s j v → IsHolder v.stage → v.seen ≡ schedule
  pub out : (j : ℕ) → Has s.views j (λ v. IsHolder v.stage) → s.homes ≡ none ∷ []
  -- each stay has turns of one core, at least one, and the schedule is their turns
  pub are_stays : AreStays stays schedule
  -- the schedule can be replayed
  pub defined : IsDefined st schedule
  -- each view has seen a beginning of it, with all turns of its cores
  pub seen : (j : ℕ) (v : View) → At s j v → Begins v.seen schedule
  pub told : (j c : ℕ) (v : View) → At s j v → 0 < count c v.cores → count c v.seen ≡ count c schedule
  -- no core has more turns than steps
  pub few_entries : (c : ℕ) → c < st.config.cores → count c schedule ≤ (core_at (board_of st schedule).cores c).steps
