-- What events the clocks and the last accesses stand for, and what contracts see of them besides.
use Rattle.std.specs.Prelude.{◌≡◌, ℕ, Bool, ◌<◌, Some, slice_get, List, [], slice_index_or, unwrap_or}
use Rattle.std.specs.Ordering.{nat_cmp}
use Rattle.std.specs.BTreeMap.{get, ContainsKey}
use Rattle.or_race.specs.declared.word.Word.{Word}
use Rattle.or_race.specs.declared.races.Races.{Races}
use Rattle.or_race.specs.Event.{Event}
use Rattle.or_race.specs.Kept.{Reaches, Covers, OfCore, IsLatest, WordOk, blank}

-- how many cores there are
abbrev pub cores_of : Races → ℕ
cores_of races = races.cores

-- the last turn that was added, or 0
abbrev pub last_of : Races → ℕ
last_of races = races.last

-- an access to the word was added
abbrev pub KnowsWord : Races → ℕ → Type 0
KnowsWord races word = ContainsKey nat_cmp races.words word

-- what is kept of a word
abbrev pub kept_of : Races → ℕ → Word
kept_of races word = unwrap_or (get nat_cmp races.words word) blank

abbrev pub clock_of : Races → ℕ → List ℕ
clock_of races core = slice_index_or races.clocks core []

-- the turns rise from 1, and the cores are below a number
pub record IsSchedule (cores : ℕ) (es : List Event) : Type 0 where
  pub begun : (i : ℕ) (e : Event) → slice_get es i ≡ Some e → 0 < e.turn
  pub rising : (i j : ℕ) (e f : Event) → slice_get es i ≡ Some e → slice_get es j ≡ Some f → i < j → e.turn < f.turn
  pub in_cores : (i : ℕ) (e : Event) → slice_get es i ≡ Some e → e.core < cores

-- what is kept is that of these events, which were added in this order, with or without locks
pub record Records (locks : Bool) (races : Races) (es : List Event) : Type 0 where
  pub locks_are : races.locks ≡ locks
  pub schedule : IsSchedule races.cores es
  pub last : IsLatest es (λ _. Unit {0}) races.last
  pub clocks : (core : ℕ) → core < races.cores → Covers es races.last (clock_of races core) (Reaches locks es (OfCore core))
  pub words : (word : ℕ) → WordOk locks es races.last word (kept_of races word)
