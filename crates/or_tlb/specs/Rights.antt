-- Which of its two tables a core asks for a right.
use Rattle.std.specs.Prelude.{Bool, true, false}
use Rattle.or_parts.specs.declared.Right.{Right}
use Rattle.or_parts.specs.declared.Right.TheVariants.{Fetch, Load, Store}

-- a fetch asks the table for fetches; a load or a store asks the other
abbrev pub is_fetch : Right → Bool
is_fetch Fetch = true
is_fetch Load = false
is_fetch Store = false
