-- The numbers of a workload: `SEED CORES ROUNDS`.
use Rattle.std.specs.Prelude.{ℕ, List, Bool, ◌&&◌, ◌≤◌, nat_le, if◌then◌else◌, Option, Some, None}
use Rattle.or_words.specs.declared.limits.TheConstants.{MOST_CORES, MOST_ROUNDS}
use Rattle.or_command_line.specs.declared.Workload.{Workload}
use Rattle.or_text.specs.Numerals.{decimal_of}

-- some cores, each of some rounds
abbrev pub workload_fits : Workload → Bool
workload_fits workload =
    (nat_le 1 workload.cores && nat_le workload.cores MOST_CORES) && (nat_le 1 workload.rounds && nat_le workload.rounds MOST_ROUNDS)

abbrev pub workload_where : Workload → Option Workload
workload_where workload = if workload_fits workload then Some workload else None

abbrev pub workload_from : Option ℕ → Option ℕ → Option ℕ → Option Workload
workload_from None cores rounds = None
workload_from (Some seed) None rounds = None
workload_from (Some seed) (Some cores) None = None
workload_from (Some seed) (Some cores) (Some rounds) = workload_where (record { seed = seed; cores = cores; rounds = rounds })

-- the workload of three numbers in decimal; none where a word is no number of 32 bits, or cores or rounds are out of their ranges
unfoldable pub workload_of : List ℕ → List ℕ → List ℕ → Option Workload
workload_of seed cores rounds = workload_from (decimal_of seed) (decimal_of cores) (decimal_of rounds)

pub record FitsWorkload (workload : Workload) : Type 0 where
  pub some_core : 1 ≤ workload.cores
  pub cores : workload.cores ≤ MOST_CORES
  pub some_round : 1 ≤ workload.rounds
  pub rounds : workload.rounds ≤ MOST_ROUNDS
