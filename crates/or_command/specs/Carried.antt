-- The statuses of a command that is carried out.
use Rattle.std.specs.Prelude.{◌≢◌, ℕ}

-- not 2, of a command line that is not valid, and not 16, of two names that lead to one file
abbrev pub IsCarriedOut : ℕ → Type 0
IsCarriedOut status = (status ≢ 2) × (status ≢ 16)
