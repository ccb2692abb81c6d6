-- What the command `gen` writes. It loads no file, and no check fails.
use Rattle.std.specs.Prelude.{◌≡◌, ℕ, List, [], ◌∷◌, Option, None}
use Rattle.or_gen.specs.Workload.{workload}
use Rattle.or_command_line.specs.declared.Workload.{Workload}
use Rattle.or_command.specs.Loads.{Load}
use Rattle.or_command.specs.Writes.{File}
use Rattle.or_command.specs.Ends.{FailedCheck}

abbrev pub gen_loads : List Load
gen_loads = []

abbrev pub gen_check : List (List ℕ) → Option FailedCheck
gen_check files = None

-- the source is written, and nothing goes to standard output
pub record GenWrites (numbers : Workload) (source : List ℕ) (files : List (List ℕ)) (outs : List File) (console : List ℕ) : Type 0 where
  pub outputs : outs ≡ record { name = source; text = workload numbers.seed numbers.cores numbers.rounds } ∷ []
  pub silent : console ≡ []
