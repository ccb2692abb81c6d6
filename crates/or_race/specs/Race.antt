-- Words that race, and the lines of a report.
use Rattle.std.specs.Prelude.{◌≡◌, ◌≢◌, ℕ, ◌<◌, ◌≤◌, ◌⊎◌, ◌&&◌, ◌||◌, Bool, true, false, IsTrue, List, [], ◌∷◌, Some, slice_get, map}
use Rattle.std.specs.List.{AllByRecursion}
use Rattle.std.specs.Ordering.{nat_cmp}
use Rattle.std.specs.List.Sorted.{IsStrictlySortedBy}
use Rattle.or_bus.specs.declared.access.AccessKind.{AccessKind}
use Rattle.or_bus.specs.declared.access.AccessKind.TheVariants.{Load, Store, Linked, Conditional}
use Rattle.or_race.specs.declared.line.Line.{Line}
use Rattle.or_race.specs.Event.{Event, Before}

-- a Store or a Conditional
abbrev pub is_writing : AccessKind → Bool
is_writing Load = false
is_writing Store = true
is_writing Linked = false
is_writing Conditional = true

-- a Load or a Store
abbrev pub is_plain : AccessKind → Bool
is_plain Load = true
is_plain Store = true
is_plain Linked = false
is_plain Conditional = false

-- one of them writes, and one of them is plain
abbrev pub kinds_conflict : AccessKind → AccessKind → Bool
kinds_conflict a b = (is_writing a || is_writing b) && (is_plain a || is_plain b)

-- two cores come to one word in ways that conflict
pub record Conflict (e f : Event) : Type 0 where
  pub cores : e.core ≢ f.core
  pub words : e.word ≡ f.word
  pub kinds : IsTrue (kinds_conflict e.kind f.kind)

-- A RACE on a word: the events at two places conflict on it, and the first does not come before the second.
pub record Race (locks : Bool) (es : List Event) (word i j : ℕ) : Type 0 where
  pub first : Event
  pub second : Event
  pub at_first : slice_get es i ≡ Some first
  pub at_second : slice_get es j ≡ Some second
  pub later : i < j
  pub word_is : second.word ≡ word
  pub conflict : Conflict first second
  pub unordered : ¬ Before locks es i j

-- a SYNCHRONIZATION WORD: the schedule has an access to it by l.lwa, or by an l.swa that stored
pub record IsSynchronizationWord (es : List Event) (word : ℕ) : Type 0 where
  pub i : ℕ
  pub e : Event
  pub at : slice_get es i ≡ Some e
  pub word_is : e.word ≡ word
  pub kind : is_plain e.kind ≡ false

-- a word whose races are reported: with locks, one that is no synchronization word
abbrev pub IsData : Bool → List Event → ℕ → Type 0
IsData false es word = Unit {0}
IsData true es word = ¬ IsSynchronizationWord es word

-- the line of a word that races: the least second event of its races, and the greatest first event that races with it
pub record IsFirst (locks : Bool) (es : List Event) (line : Line) : Type 0 where
  pub i : ℕ
  pub j : ℕ
  pub race : Race locks es line.word i j
  pub least : (a b : ℕ) → Race locks es line.word a b → j ≤ b
  pub greatest : (a : ℕ) → Race locks es line.word a j → a ≤ i
  pub first_turn : line.first_turn ≡ race.first.turn
  pub first_core : line.first_core ≡ race.first.core
  pub second_turn : line.second_turn ≡ race.second.turn
  pub second_core : line.second_core ≡ race.second.core
  pub first_pc : line.first_pc ≡ race.first.pc
  pub second_pc : line.second_pc ≡ race.second.pc

-- a line of a report
abbrev pub IsReported : Bool → List Event → Line → Type 0
IsReported locks es line = IsFirst locks es line × IsData locks es line.word

-- one of the lines is of this word
abbrev pub HasLine : ℕ → List Line → Type 0
HasLine word [] = ⊥
HasLine word (line ∷ lines) = (line.word ≡ word) ⊎ HasLine word lines

-- a line for each word that races and whose races are reported, and no others, in increasing order
pub record IsReport (locks : Bool) (es : List Event) (lines : List Line) : Type 0 where
  pub sorted : IsStrictlySortedBy nat_cmp (map (λ line. line.word) lines)
  pub each : AllByRecursion (IsReported locks es) lines
  pub all : (word i j : ℕ) → Race locks es word i j → IsData locks es word → HasLine word lines
