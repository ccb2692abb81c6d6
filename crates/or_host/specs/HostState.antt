-- What contracts see of a host at a moment.
use Rattle.std.specs.Prelude.{ℕ, List, Option}
use Rattle.or_host.specs.Told.{Content}
use Rattle.or_host.specs.Blamed.{Blamed}
use Rattle.or_host.specs.Pairs.{Pairs}

pub record HostState : Type 0 where
  -- what each name holds, where the host tells it
  pub holds : List ℕ → Option Content
  -- whether two names lead to one file, where the host tells it
  pub pairs : Pairs
  -- what was written to standard output, and what was said, where the host tells it
  pub written : Option (List ℕ)
  pub said : Option (List ℕ)
  -- the count of faults of all calls but `say`, and that of `say`
  pub faults : ℕ
  pub say_faults : ℕ
  -- the count of loads that found no memory
  pub lacks : ℕ
  -- what was being done at the last fault of a call but `say`
  pub blame : Option Blamed
