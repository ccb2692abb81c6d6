-- Which names lead to one file.
use Rattle.std.specs.Prelude.{◌≡◌, ℕ, List, Bool, Option, IfSome}
use Rattle.or_host.specs.Told.{TellsSame}

-- whether two names lead to one file, where that is told
abbrev pub Pairs : Type 0
Pairs = List ℕ → List ℕ → Option Bool

-- this is the answer, where one is told
abbrev pub IsTold : Bool → Option Bool → Type 0
IsTold answer told = IfSome told (λ same. answer ≡ same)

-- of each two names the same is told as before
abbrev pub KeepsPairs : Pairs → Pairs → Type 0
KeepsPairs old new = (one other : List ℕ) → TellsSame (old one other) (new one other)
