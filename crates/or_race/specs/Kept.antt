-- What the clocks and the last accesses say of the events so far. The report's definitions do not cite this file.
use Rattle.std.specs.Prelude.{◌≡◌, ◌≢◌, ℕ, ◌<◌, ◌≤◌, ◌⊎◌, max, List, [], ◌∷◌, Bool, true, false, IsTrue, Option, Some, None, slice_get, slice_index, slice_index_or, nat_lt, if◌then◌else◌}
use Rattle.or_bus.specs.declared.access.AccessKind.{AccessKind}
use Rattle.or_bus.specs.declared.access.AccessKind.TheVariants.{Load, Store, Linked, Conditional}
use Rattle.or_race.specs.declared.line.Line.{Line}
use Rattle.or_race.specs.declared.word.Last.{Last}
use Rattle.or_race.specs.declared.word.Word.{Word}
use Rattle.or_race.specs.Event.{Event, is_release, Before}
use Rattle.or_race.specs.Race.{is_plain, Race, IsFirst, IsSynchronizationWord}

-- the event at i is one that P holds of, or before such a one
pub record Reaches (locks : Bool) (es : List Event) (P : Event → Type 0) (i : ℕ) : Type 0 where
  pub j : ℕ
  pub last : Event
  pub at : slice_get es j ≡ Some last
  pub holds : P last
  pub way : (i ≡ j) ⊎ Before locks es i j

-- The clock tells of each event whether K holds of its place, and names no turn past the last.
pub record Covers (es : List Event) (last : ℕ) (clock : List ℕ) (K : ℕ → Type 0) : Type 0 where
  pub told : (i : ℕ) (e : Event) → slice_get es i ≡ Some e → e.turn ≤ slice_index clock e.core → K i
  pub counted : (i : ℕ) (e : Event) → slice_get es i ≡ Some e → K i → e.turn ≤ slice_index clock e.core
  pub under : (core : ℕ) → slice_index clock core ≤ last

abbrev pub OfCore : ℕ → Event → Type 0
OfCore core e = e.core ≡ core

-- a release of the word
pub record Releases (locks : Bool) (word : ℕ) (e : Event) : Type 0 where
  pub kind : IsTrue (is_release locks e.kind)
  pub same : e.word ≡ word

-- an event that P holds of, in this turn
pub record Witness (es : List Event) (P : Event → Type 0) (turn : ℕ) : Type 0 where
  pub i : ℕ
  pub e : Event
  pub at : slice_get es i ≡ Some e
  pub holds : P e
  pub turn_is : e.turn ≡ turn

-- the turn of the last event that P holds of, or 0
pub record IsLatest (es : List Event) (P : Event → Type 0) (turn : ℕ) : Type 0 where
  pub most : (i : ℕ) (e : Event) → slice_get es i ≡ Some e → P e → e.turn ≤ turn
  pub some : 0 < turn → Witness es P turn

pub record IsOf (word core : ℕ) (kind : AccessKind) (e : Event) : Type 0 where
  pub same_word : e.word ≡ word
  pub same_core : e.core ≡ core
  pub same_kind : e.kind ≡ kind

-- each core's last access of a kind
abbrev pub lasts_of : AccessKind → Word → List Last
lasts_of Load s = s.loads
lasts_of Store s = s.stores
lasts_of Linked s = s.linked
lasts_of Conditional s = s.conditionals

-- no access
abbrev pub no_last : Last
no_last = record { turn = 0; pc = 0 }

-- a core's last access of a kind
abbrev pub last_at : AccessKind → Word → ℕ → Last
last_at kind s core = slice_index_or (lasts_of kind s) core no_last

-- the later of two accesses
abbrev pub later_access : Last → Last → Last
later_access a b = if nat_lt a.turn b.turn then b else a

-- the last access of a core that conflicts with one of this kind
abbrev pub conflicting_of : AccessKind → Word → ℕ → Last
conflicting_of Load s core = later_access (last_at Store s core) (last_at Conditional s core)
conflicting_of Store s core = later_access (later_access (last_at Load s core) (last_at Store s core)) (later_access (last_at Linked s core) (last_at Conditional s core))
conflicting_of Linked s core = last_at Store s core
conflicting_of Conditional s core = later_access (last_at Load s core) (last_at Store s core)

-- an access on the word by the core that was made in the turn of one that is kept was made at its pc
abbrev pub IsPlaced : List Event → ℕ → ℕ → Last → Type 0
IsPlaced es word core last = (i : ℕ) (e : Event) → slice_get es i ≡ Some e → e.word ≡ word → e.core ≡ core → e.turn ≡ last.turn → e.pc ≡ last.pc

-- an event as it is kept
abbrev pub last_of_event : Event → Last
last_of_event e = record { turn = e.turn; pc = e.pc }

-- the line of a word, if it races
abbrev pub FoundOk : Bool → List Event → ℕ → Option Line → Type 0
FoundOk locks es word None = (i j : ℕ) → Race locks es word i j → ⊥
FoundOk locks es word (Some line) = (line.word ≡ word) × IsFirst locks es line

-- whether the word is a synchronization word
abbrev pub SynchronizesOk : List Event → ℕ → Bool → Type 0
SynchronizesOk es word false = ¬ IsSynchronizationWord es word
SynchronizesOk es word true = IsSynchronizationWord es word

pub record WordOk (locks : Bool) (es : List Event) (last word : ℕ) (s : Word) : Type 0 where
  pub released : Covers es last s.released (Reaches locks es (Releases locks word))
  pub lasts : (core : ℕ) (kind : AccessKind) → IsLatest es (IsOf word core kind) (last_at kind s core).turn
  pub places : (core : ℕ) (kind : AccessKind) → IsPlaced es word core (last_at kind s core)
  pub found : FoundOk locks es word s.found
  pub synchronizes : SynchronizesOk es word s.synchronizes

-- no other core's last conflicting access is one that the clock does not cover
abbrev pub NoRace : ℕ → List ℕ → Word → Event → Type 0
NoRace cores clock s e = (core : ℕ) → core < cores → core ≢ e.core → (conflicting_of e.kind s core).turn ≤ slice_index clock core

-- the line names the last such access of all
pub record IsLatestRace (cores : ℕ) (clock : List ℕ) (s : Word) (e : Event) (line : Line) : Type 0 where
  pub word : line.word ≡ e.word
  pub second_turn : line.second_turn ≡ e.turn
  pub second_core : line.second_core ≡ e.core
  pub in_cores : line.first_core < cores
  pub other : line.first_core ≢ e.core
  pub turn : line.first_turn ≡ (conflicting_of e.kind s line.first_core).turn
  pub first_pc : line.first_pc ≡ (conflicting_of e.kind s line.first_core).pc
  pub second_pc : line.second_pc ≡ e.pc
  pub ahead : slice_index clock line.first_core < line.first_turn
  pub most : (core : ℕ) → core < cores → core ≢ e.core → slice_index clock core < (conflicting_of e.kind s core).turn → (conflicting_of e.kind s core).turn ≤ line.first_turn

-- the core's own clock: its own turn at its own place, and elsewhere what it had seen, with what was released on to it
pub record NextClock (e : Event) (before released clock : List ℕ) : Type 0 where
  pub own : slice_index clock e.core ≡ e.turn
  pub joined : (core : ℕ) → core ≢ e.core → e.kind ≡ Linked → slice_index clock core ≡ max (slice_index before core) (slice_index released core)
  pub kept : (core : ℕ) → core ≢ e.core → e.kind ≢ Linked → slice_index clock core ≡ slice_index before core

-- what is kept of the word after the event, where clock is then the core's own
pub record NextWord (locks : Bool) (cores : ℕ) (e : Event) (clock : List ℕ) (s new : Word) : Type 0 where
  pub release_joined : (core : ℕ) → IsTrue (is_release locks e.kind) → slice_index new.released core ≡ max (slice_index s.released core) (slice_index clock core)
  pub release_kept : is_release locks e.kind ≡ false → new.released ≡ s.released
  pub last_is : last_at e.kind new e.core ≡ last_of_event e
  pub last_others : (core : ℕ) → core ≢ e.core → last_at e.kind new core ≡ last_at e.kind s core
  pub kinds_kept : (kind : AccessKind) → kind ≢ e.kind → lasts_of kind new ≡ lasts_of kind s
  pub found_kept : (line : Line) → s.found ≡ Some line → new.found ≡ Some line
  pub found_none : s.found ≡ None → new.found ≡ None → NoRace cores clock s e
  pub found_some : (line : Line) → s.found ≡ None → new.found ≡ Some line → IsLatestRace cores clock s e line
  pub synchronizes : is_plain e.kind ≡ false → new.synchronizes ≡ true
  pub plain : IsTrue (is_plain e.kind) → new.synchronizes ≡ s.synchronizes

-- what is released on the word after an access of this kind
pub record ReleasedAfter (locks : Bool) (kind : AccessKind) (old clock new : List ℕ) : Type 0 where
  pub on : (core : ℕ) → IsTrue (is_release locks kind) → slice_index new core ≡ max (slice_index old core) (slice_index clock core)
  pub off : is_release locks kind ≡ false → new ≡ old

-- the cores' last accesses of a kind after the event
pub record LastsAfter (e : Event) (kind : AccessKind) (old new : List Last) : Type 0 where
  pub own : kind ≡ e.kind → slice_index_or new e.core no_last ≡ last_of_event e
  pub others : (core : ℕ) → core ≢ e.core → slice_index_or new core no_last ≡ slice_index_or old core no_last
  pub kept : kind ≢ e.kind → new ≡ old

-- a word with no access
abbrev pub no_turns : List ℕ
no_turns = 0 ∷ 0 ∷ 0 ∷ 0 ∷ 0 ∷ 0 ∷ 0 ∷ 0 ∷ []

abbrev pub no_lasts : List Last
no_lasts = no_last ∷ no_last ∷ no_last ∷ no_last ∷ no_last ∷ no_last ∷ no_last ∷ no_last ∷ []

abbrev pub blank : Word
blank = record { released = no_turns; loads = no_lasts; stores = no_lasts; linked = no_lasts; conditionals = no_lasts; synchronizes = false; found = None }
