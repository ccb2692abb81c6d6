-- Settings that a board can have, and its limits.
use Rattle.std.specs.Prelude.{◌≤◌, ◌*◌, ℕ}
use Rattle.or_words.specs.declared.Config.{Config}
use Rattle.or_words.specs.declared.limits.TheConstants.{MOST_CORES, MOST_BUDGET, MOST_RAM, MIB}

-- the settings are in their ranges; the PIC may have either form
pub record Fits (config : Config) : Type 0 where
  pub some_core : 1 ≤ config.cores
  pub few_cores : config.cores ≤ MOST_CORES
  pub some_step : 1 ≤ config.budget
  pub few_steps : config.budget ≤ MOST_BUDGET
  pub some_ram : 1 ≤ config.ram
  pub little_ram : config.ram ≤ MOST_RAM

-- the bytes of RAM
abbrev pub ram_bytes : Config → ℕ
ram_bytes config = config.ram * MIB
