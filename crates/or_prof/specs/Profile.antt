-- The profile of the items that were added for cores: an item is the pc before a step.
use Rattle.std.specs.Prelude.{◌≡◌, ℕ, ◌==◌, ◌&&◌, List, Bool, true, false, Option, Some, None, length, slice_get, count_by}
use Rattle.std.specs.List.{filter, flat_map}
use Rattle.or_elf.specs.Symbols.{SymbolTable, function_of}
use Rattle.or_prof.specs.Tally.{Counts, count_in, spot_at, is_none, AreBelow}

-- the trace of a turn, added for a core
pub record Addition : Type 0 where
  pub core : ℕ
  pub trace : List ℕ

-- the items of a core, in the order in which they were added
abbrev pub items_of : ℕ → List Addition → List ℕ
items_of core additions = flat_map (λ (addition : Addition). addition.trace) (filter (λ (addition : Addition). addition.core == core) additions)

abbrev pub is_same : Option ℕ → Option ℕ → Bool
is_same None None = true
is_same None (Some other) = false
is_same (Some index) None = false
is_same (Some index) (Some other) = index == other

-- how many of these items have the function with this index, or have none
abbrev pub count_of : SymbolTable → List ℕ → Option ℕ → ℕ
count_of symbols items function = count_by (λ pc. is_same (function_of symbols pc) function) items

-- how many of these items have this pc and no function, if that is asked for
abbrev pub spot_count : Bool → SymbolTable → List ℕ → ℕ → ℕ
spot_count false symbols items pc = 0
spot_count true symbols items pc = count_by (λ item. is_none (function_of symbols item) && (item == pc)) items

-- the symbols, whether pcs are counted too, and what is counted for each core
pub record Profiled : Type 0 where
  pub symbols : SymbolTable
  pub hot : Bool
  pub cores : List Counts

abbrev pub steps_in : Option Counts → ℕ
steps_in None = 0
steps_in (Some counts) = counts.steps

-- how many items were added for a core
abbrev pub steps_of : Profiled → ℕ → ℕ
steps_of profile core = steps_in (slice_get profile.cores core)

-- these are the counts of these items
pub record AreCounts (hot : Bool) (symbols : SymbolTable) (items : List ℕ) (counts : Counts) : Type 0 where
  pub each : (function : Option ℕ) → count_in counts function ≡ count_of symbols items function
  pub spots : (pc : ℕ) → spot_at counts.spots pc ≡ spot_count hot symbols items pc
  pub steps : counts.steps ≡ length items

-- this is the profile of what was added
pub record IsProfile (profile : Profiled) (additions : List Addition) : Type 0 where
  pub counts : (core : ℕ) (counts : Counts) → slice_get profile.cores core ≡ Some counts → AreCounts profile.hot profile.symbols (items_of core additions) counts

-- each core has room for the counts of all functions
abbrev pub AreSized : SymbolTable → List Counts → Type 0
AreSized symbols cores = (core : ℕ) (counts : Counts) → slice_get cores core ≡ Some counts → AreBelow (length counts.by_index) symbols.functions
