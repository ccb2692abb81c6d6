-- What is counted of a core's items: a pc for each of its steps.
use Rattle.std.specs.Prelude.{◌≡◌, ℕ, ◌==◌, ◌+◌, ◌<◌, ◌≤◌, ◌&&◌, Bool, true, false, List, [], Option, Some, None, if◌then◌else◌, length, slice_get, slice_index, slice_set, replicate, nat_eq, unwrap_or}
use Rattle.std.specs.Map.{lookup}
use Rattle.or_elf.specs.declared.symbols.Symbol.{Symbol as Function}

-- pcs, each with its count
abbrev pub Spotted : Type 0
Spotted = List (ℕ × ℕ)

-- the count of a pc
abbrev pub spot_at : Spotted → ℕ → ℕ
spot_at spots pc = unwrap_or (lookup (nat_eq pc) spots) 0

-- one item more, which has this pc
abbrev pub IsSpotted : Spotted → ℕ → Spotted → Type 0
IsSpotted old pc new = (other : ℕ) → spot_at new other ≡ spot_at old other + (if pc == other then 1 else 0)

-- how many items have the function with each index, how many have none and which pcs these have, and how many there are
pub record Counts : Type 0 where
  pub by_index : List ℕ
  pub outside : ℕ
  pub spots : Spotted
  pub steps : ℕ

-- the count of the function with an index, or of the items that have no function
abbrev pub count_in : Counts → Option ℕ → ℕ
count_in counts None = counts.outside
count_in counts (Some index) = slice_index counts.by_index index

-- nothing is counted, with room for the indices below a size
abbrev pub no_counts : ℕ → Counts
no_counts size = record { by_index = replicate size 0; outside = 0; spots = []; steps = 0 }

-- one item more, which has this function or none, with the counts of pcs behind it
abbrev pub counted : Counts → Option ℕ → Spotted → Counts
counted counts None spots = record { by_index = counts.by_index; outside = counts.outside + 1; spots = spots; steps = counts.steps + 1 }
counted counts (Some index) spots =
    record { by_index = slice_set counts.by_index index (slice_index counts.by_index index + 1); outside = counts.outside; spots = spots; steps = counts.steps + 1 }

abbrev pub is_none : Option ℕ → Bool
is_none None = true
is_none (Some index) = false

-- one item more, which has this function or none; its pc is counted if it has none and the counts of pcs are asked for
pub record IsCounted (hot : Bool) (old : Counts) (function : Option ℕ) (pc : ℕ) (new : Counts) : Type 0 where
  pub counts : new ≡ counted old function new.spots
  pub spots : (other : ℕ) → spot_at new.spots other ≡ spot_at old.spots other + (if hot && (is_none function && (pc == other)) then 1 else 0)

-- no count is above the number of items
pub record IsBounded (counts : Counts) : Type 0 where
  pub inside : (index : ℕ) → slice_index counts.by_index index ≤ counts.steps
  pub outside : counts.outside ≤ counts.steps
  pub spots : (pc : ℕ) → spot_at counts.spots pc ≤ counts.steps

-- the index of each of these functions is below a size
abbrev pub AreBelow : ℕ → List Function → Type 0
AreBelow size functions = (k : ℕ) (function : Function) → slice_get functions k ≡ Some function → function.index < size

-- a list of this capacity has room for each pc that a core has
abbrev pub HaveRoom : ℕ → List Counts → Type 0
HaveRoom capacity cores = (core : ℕ) (counts : Counts) → slice_get cores core ≡ Some counts → length counts.spots ≤ capacity

-- nothing is counted for any of so many cores
pub record AreEmpty (count size : ℕ) (cores : List Counts) : Type 0 where
  pub many : length cores ≡ count
  pub each : (core : ℕ) (counts : Counts) → slice_get cores core ≡ Some counts → counts ≡ no_counts size
