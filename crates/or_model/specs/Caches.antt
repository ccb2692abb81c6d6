-- What the data caches would hold, told by the accesses alone: the world has no caches.
use Rattle.std.specs.Prelude.{ℕ, ◌+◌, Bool, true, false, not, ◌==◌, ◌&&◌, if◌then◌else◌, List, [], ◌∷◌}
use Rattle.or_parts.specs.Lines.{index_of}
use Rattle.or_model.specs.World.{Access, Kind}
use Rattle.or_model.specs.World.Kind.{Loads, Stores, Drops}

-- a cached load of the line by core c: afterwards its cache holds the line
abbrev pub brings_by : Kind → Access → ℕ → ℕ → Bool
brings_by Loads access c line = access.cached && access.core == c && access.line == line
brings_by Stores access c line = false
brings_by Drops access c line = false

abbrev pub brings : Access → ℕ → ℕ → Bool
brings access c line = brings_by access.kind access c line

-- an access after which it does not: a cached load by c over the line's index, a store to the line by another core
-- or past the caches, or a drop of the line by c
abbrev pub ends_by : Kind → Access → ℕ → ℕ → Bool
ends_by Loads access c line = access.cached && access.core == c && index_of access.line == index_of line
ends_by Stores access c line = access.line == line && not (access.cached && access.core == c)
ends_by Drops access c line = access.core == c && access.line == line

abbrev pub ends : Access → ℕ → ℕ → Bool
ends access c line = ends_by access.kind access c line

-- whether core c's data cache holds a line: of the accesses, the newest first, the first that brings or ends it decides
abbrev pub held : List Access → ℕ → ℕ → Bool
held [] c line = false
held (access ∷ earlier) c line = if brings access c line then true else if ends access c line then false else held earlier c line

abbrev pub is_cached_load_by : Kind → Access → ℕ → Bool
is_cached_load_by Loads access c = access.cached && access.core == c
is_cached_load_by Stores access c = false
is_cached_load_by Drops access c = false

abbrev pub is_cached_load : Access → ℕ → Bool
is_cached_load access c = is_cached_load_by access.kind access c

-- the cached loads of core c that found their line held
abbrev pub hits : List Access → ℕ → ℕ
hits [] c = 0
hits (access ∷ earlier) c = hits earlier c + (if is_cached_load access c && held earlier c access.line then 1 else 0)

-- and those that did not
abbrev pub misses : List Access → ℕ → ℕ
misses [] c = 0
misses (access ∷ earlier) c = misses earlier c + (if is_cached_load access c && not (held earlier c access.line) then 1 else 0)
