-- The accesses of a schedule, in the order of its turns, and which of them come before which.
use Rattle.std.specs.Prelude.{◌≡◌, ℕ, ◌<◌, ◌⊎◌, Bool, true, false, IsTrue, List, Some, slice_get}
use Rattle.or_bus.specs.declared.access.AccessKind.{AccessKind}
use Rattle.or_bus.specs.declared.access.AccessKind.TheVariants.{Load, Store, Linked, Conditional}
use Rattle.or_bus.specs.declared.access.Access.{Access}

-- an access to RAM, the turn that made it, counted from 1, and the pc of its instruction
pub record Event : Type 0 where
  pub turn : ℕ
  pub pc : ℕ
  pub core : ℕ
  pub word : ℕ
  pub kind : AccessKind

-- the event of an access in a turn, made at a pc
abbrev pub event : ℕ → ℕ → Access → Event
event turn pc a = record { turn = turn; pc = pc; core = a.core; word = a.word; kind = a.kind }

-- a conditional store that stored releases its word; with locks, a plain store does too, as it frees a lock
abbrev pub is_release : Bool → AccessKind → Bool
is_release locks Load = false
is_release locks Store = locks
is_release locks Linked = false
is_release locks Conditional = true

-- a release of a word, and a linked load that acquires it (so the word is a synchronization word)
pub record SynchronizesWith (locks : Bool) (e f : Event) : Type 0 where
  pub from : IsTrue (is_release locks e.kind)
  pub to : f.kind ≡ Linked
  pub word : e.word ≡ f.word

-- what orders an event and a later one at once: one core makes both, or the first synchronizes with the second
abbrev pub Orders : Bool → Event → Event → Type 0
Orders locks e f = (e.core ≡ f.core) ⊎ SynchronizesWith locks e f

-- the events at two places, of which the second is the later, are ordered at once
pub record Direct (locks : Bool) (es : List Event) (i j : ℕ) : Type 0 where
  pub first : Event
  pub second : Event
  pub at_first : slice_get es i ≡ Some first
  pub at_second : slice_get es j ≡ Some second
  pub later : i < j
  pub ordered : Orders locks first second

-- BEFORE, on places of the list: the least transitive relation that has these
pub data Before (locks : Bool) (es : List Event) : ℕ → ℕ → Type 0 where
  direct : {i j : ℕ} → Direct locks es i j → Before locks es i j
  through : {i j k : ℕ} → Before locks es i j → Before locks es j k → Before locks es i k
