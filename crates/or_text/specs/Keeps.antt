-- What an append leaves of the list that it appends to.
use Rattle.std.specs.Prelude.{◌≡◌, List, length, take}

-- the old list stands in front of the new one
abbrev pub Keeps : {X : Type 0} → List X → List X → Type 0
Keeps old new = take (length old) new ≡ old
