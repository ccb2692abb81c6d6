-- The options of a run: `[--cores N] [--budget N] [--ram N] [--pic latched] [--stay N] [--status]`, in this order, and those of other commands.
use Rattle.std.specs.Prelude.{ℕ, List, [], ◌∷◌, Bool, true, false, ◌&&◌, ◌≤◌, ◌<◌, nat_le, nat_lt, IfSome, if◌then◌else◌, Option, Some, None, codes}
use Rattle.std.specs.Str.{bytes_eq}
use Rattle.or_words.specs.declared.Config.{Config}
use Rattle.or_words.specs.declared.limits.TheConstants.{MOST_CORES, MOST_BUDGET, MOST_RAM, MOST_STAY, MOST_FIRST_SEED, MOST_TRIES, MOST_EVERY}
use Rattle.or_command_line.specs.declared.defaults.TheConstants.{DEFAULT_BUDGET, DEFAULT_RAM, DEFAULT_CORES, DEFAULT_HUNT_CORES, DEFAULT_STAY, DEFAULT_SEED, DEFAULT_TRIES, DEFAULT_EVERY, DEFAULT_FROM, DEFAULT_TO}
use Rattle.or_command_line.specs.declared.RunOptions.{RunOptions}
use Rattle.or_command_line.specs.declared.HuntOptions.{HuntOptions}
use Rattle.or_command_line.specs.declared.RaceOptions.{RaceOptions}
use Rattle.or_command_line.specs.declared.TraceOptions.{TraceOptions}
use Rattle.or_text.specs.Numerals.{decimal_of}

abbrev pub with_rest : {A : Type 0} → List (List ℕ) → Option A → Option (A × List (List ℕ))
with_rest rest None = None
with_rest rest (Some value) = Some (value, rest)

abbrev pub option_value : List (List ℕ) → Option (ℕ × List (List ℕ))
option_value [] = None
option_value (value ∷ rest) = with_rest rest (decimal_of value)

-- an option with a number, or its default where another word stands here; and the words behind it
abbrev pub option_of : List ℕ → ℕ → List (List ℕ) → Option (ℕ × List (List ℕ))
option_of name default [] = Some (default, [])
option_of name default (word ∷ rest) = if bytes_eq word name then option_value rest else Some (default, word ∷ rest)

-- whether an option without a number stands here; and the words behind it
abbrev pub flag_of : List ℕ → List (List ℕ) → Bool × List (List ℕ)
flag_of name [] = (false, [])
flag_of name (word ∷ rest) = if bytes_eq word name then (true, rest) else (false, word ∷ rest)

abbrev pub latch_value : List (List ℕ) → Option (Bool × List (List ℕ))
latch_value [] = None
latch_value (value ∷ rest) = if bytes_eq value (codes "latched") then Some (true, rest) else None

-- whether the PIC latches; and the words behind
abbrev pub latch_of : List (List ℕ) → Option (Bool × List (List ℕ))
latch_of [] = Some (false, [])
latch_of (word ∷ rest) = if bytes_eq word (codes "--pic") then latch_value rest else Some (false, word ∷ rest)

-- the settings are in their ranges
abbrev pub config_fits : Config → Bool
config_fits config =
    (nat_le 1 config.cores && nat_le config.cores MOST_CORES)
    && ((nat_le 1 config.budget && nat_le config.budget MOST_BUDGET) && (nat_le 1 config.ram && nat_le config.ram MOST_RAM))

abbrev pub config_where : Config → List (List ℕ) → Option (Config × List (List ℕ))
config_where config rest = if config_fits config then Some (config, rest) else None

abbrev pub config_with_latch : ℕ → ℕ → ℕ → Option (Bool × List (List ℕ)) → Option (Config × List (List ℕ))
config_with_latch cores budget ram None = None
config_with_latch cores budget ram (Some (latched, rest)) = config_where (record { cores = cores; budget = budget; ram = ram; latched = latched }) rest

abbrev pub config_with_ram : ℕ → ℕ → Option (ℕ × List (List ℕ)) → Option (Config × List (List ℕ))
config_with_ram cores budget None = None
config_with_ram cores budget (Some (ram, rest)) = config_with_latch cores budget ram (latch_of rest)

abbrev pub config_with_budget : ℕ → Option (ℕ × List (List ℕ)) → Option (Config × List (List ℕ))
config_with_budget cores None = None
config_with_budget cores (Some (budget, rest)) = config_with_ram cores budget (option_of (codes "--ram") DEFAULT_RAM rest)

abbrev pub config_with_cores : Option (ℕ × List (List ℕ)) → Option (Config × List (List ℕ))
config_with_cores None = None
config_with_cores (Some (cores, rest)) = config_with_budget cores (option_of (codes "--budget") DEFAULT_BUDGET rest)

-- the settings that the options give, with so many cores where none says it, and the words behind them; none where a setting
-- is out of its range
unfoldable pub config_of : ℕ → List (List ℕ) → Option (Config × List (List ℕ))
config_of cores words = config_with_cores (option_of (codes "--cores") cores words)

-- the most turns of a stay at the bus, at least one
abbrev pub stay_fits : ℕ → Bool
stay_fits stay = nat_le 1 stay && nat_le stay MOST_STAY

abbrev pub stay_where : Option (ℕ × List (List ℕ)) → Option (ℕ × List (List ℕ))
stay_where None = None
stay_where (Some (stay, rest)) = if stay_fits stay then Some (stay, rest) else None

-- the option `[--stay N]`, and the words behind it; none where the number is out of its range
unfoldable pub stay_of : List (List ℕ) → Option (ℕ × List (List ℕ))
stay_of words = stay_where (option_of (codes "--stay") DEFAULT_STAY words)

pub record FitsStay (stay : ℕ) : Type 0 where
  pub some : 1 ≤ stay
  pub limit : stay ≤ MOST_STAY

abbrev pub options_with_status : Config → ℕ → Bool × List (List ℕ) → Option RunOptions
options_with_status config stay (status, []) = Some (record { config = config; stay = stay; status = status })
options_with_status config stay (status, word ∷ rest) = None

abbrev pub options_with_stay : Config → Option (ℕ × List (List ℕ)) → Option RunOptions
options_with_stay config None = None
options_with_stay config (Some (stay, rest)) = options_with_status config stay (flag_of (codes "--status") rest)

abbrev pub options_with_config : Option (Config × List (List ℕ)) → Option RunOptions
options_with_config None = None
options_with_config (Some (config, rest)) = options_with_stay config (stay_of rest)

-- the options of a run; none where a word is no option here, or a number is out of its range
unfoldable pub run_options_of : List (List ℕ) → Option RunOptions
run_options_of words = options_with_config (config_of DEFAULT_CORES words)

-- the first seed, and how many: at least one; each has 32 bits
abbrev pub hunt_fits : ℕ → ℕ → Bool
hunt_fits seed tries = nat_le seed MOST_FIRST_SEED && (nat_le 1 tries && nat_le tries MOST_TRIES)

abbrev pub hunt_options_with_tries : Config → ℕ → Option (ℕ × List (List ℕ)) → Option HuntOptions
hunt_options_with_tries config seed None = None
hunt_options_with_tries config seed (Some (tries, [])) = if hunt_fits seed tries then Some (record { config = config; seed = seed; tries = tries }) else None
hunt_options_with_tries config seed (Some (tries, word ∷ rest)) = None

abbrev pub hunt_options_with_seed : Config → Option (ℕ × List (List ℕ)) → Option HuntOptions
hunt_options_with_seed config None = None
hunt_options_with_seed config (Some (seed, rest)) = hunt_options_with_tries config seed (option_of (codes "--tries") DEFAULT_TRIES rest)

abbrev pub hunt_options_with_config : Option (Config × List (List ℕ)) → Option HuntOptions
hunt_options_with_config None = None
hunt_options_with_config (Some (config, rest)) = hunt_options_with_seed config (option_of (codes "--seed") DEFAULT_SEED rest)

-- the options of a hunt: the settings, and `[--seed N] [--tries N]`; none where a word is no option here, or a number is out of its range
unfoldable pub hunt_options_of : List (List ℕ) → Option HuntOptions
hunt_options_of words = hunt_options_with_config (config_of DEFAULT_HUNT_CORES words)

pub record FitsHunt (options : HuntOptions) : Type 0 where
  pub some : 1 ≤ options.tries
  pub limit : options.tries ≤ MOST_TRIES
  pub seed : options.seed ≤ MOST_FIRST_SEED

abbrev pub stay_without_rest : Option (ℕ × List (List ℕ)) → Option ℕ
stay_without_rest None = None
stay_without_rest (Some (stay, [])) = Some stay
stay_without_rest (Some (stay, word ∷ rest)) = None

-- the option `[--stay N]` alone; none where a word is no option here, or the number is out of its range
unfoldable pub stay_alone_of : List (List ℕ) → Option ℕ
stay_alone_of words = stay_without_rest (stay_of words)

abbrev pub flag_without_rest : Bool × List (List ℕ) → Option Bool
flag_without_rest (given, []) = Some given
flag_without_rest (given, word ∷ rest) = None

-- an option without a number alone, as `[--symbols]`; none where another word stands
unfoldable pub flag_alone_of : List ℕ → List (List ℕ) → Option Bool
flag_alone_of name words = flag_without_rest (flag_of name words)

abbrev pub race_options_with_places : Bool → Bool × List (List ℕ) → Option RaceOptions
race_options_with_places locks (places, []) = Some (record { locks = locks; places = places })
race_options_with_places locks (places, word ∷ rest) = None

abbrev pub race_options_with : Bool × List (List ℕ) → Option RaceOptions
race_options_with (locks, rest) = race_options_with_places locks (flag_of (codes "--where") rest)

-- the options of a race report: `[--locks] [--where]`; none where a word is no option here
unfoldable pub race_options_of : List (List ℕ) → Option RaceOptions
race_options_of words = race_options_with (flag_of (codes "--locks") words)

abbrev pub as_given : Option (ℕ × List (List ℕ)) → Option (Option ℕ × List (List ℕ))
as_given None = None
as_given (Some (number, rest)) = Some (Some number, rest)

-- an option with a number, if it stands here; and the words behind it
abbrev pub given_of : List ℕ → List (List ℕ) → Option (Option ℕ × List (List ℕ))
given_of name [] = Some (None, [])
given_of name (word ∷ rest) = if bytes_eq word name then as_given (option_value rest) else Some (None, word ∷ rest)

-- a core that a board may have, if one is given
abbrev pub core_fits : Option ℕ → Bool
core_fits None = true
core_fits (Some core) = nat_lt core MOST_CORES

-- the core of a trace, and its turns, which are counted from 1
abbrev pub trace_fits : TraceOptions → Bool
trace_fits options = core_fits options.core && (nat_le 1 options.from && nat_le 1 options.to)

abbrev pub trace_where : TraceOptions → Option TraceOptions
trace_where options = if trace_fits options then Some options else None

abbrev pub trace_options_with_to : Option ℕ → ℕ → Option (ℕ × List (List ℕ)) → Option TraceOptions
trace_options_with_to core from None = None
trace_options_with_to core from (Some (to, [])) = trace_where (record { core = core; from = from; to = to })
trace_options_with_to core from (Some (to, word ∷ rest)) = None

abbrev pub trace_options_with_from : Option ℕ → Option (ℕ × List (List ℕ)) → Option TraceOptions
trace_options_with_from core None = None
trace_options_with_from core (Some (from, rest)) = trace_options_with_to core from (option_of (codes "--to") DEFAULT_TO rest)

abbrev pub trace_options_with_core : Option (Option ℕ × List (List ℕ)) → Option TraceOptions
trace_options_with_core None = None
trace_options_with_core (Some (core, rest)) = trace_options_with_from core (option_of (codes "--from") DEFAULT_FROM rest)

-- the options of a trace: `[--core N] [--from T] [--to T]`; none where a word is no option here, or a number is out of its range
unfoldable pub trace_options_of : List (List ℕ) → Option TraceOptions
trace_options_of words = trace_options_with_core (given_of (codes "--core") words)

pub record FitsTrace (options : TraceOptions) : Type 0 where
  pub core : IfSome options.core (λ core. core < MOST_CORES)
  pub from : 1 ≤ options.from
  pub to : 1 ≤ options.to

-- turns between two checkpoints, at least one
abbrev pub every_fits : ℕ → Bool
every_fits every = nat_le 1 every && nat_le every MOST_EVERY

abbrev pub every_from : Option (ℕ × List (List ℕ)) → Option ℕ
every_from None = None
every_from (Some (every, [])) = if every_fits every then Some every else None
every_from (Some (every, word ∷ rest)) = None

-- the option `[--every N]`; none where a word is no option here, or the number is out of its range
unfoldable pub every_of : List (List ℕ) → Option ℕ
every_of words = every_from (option_of (codes "--every") DEFAULT_EVERY words)

pub record FitsEvery (every : ℕ) : Type 0 where
  pub some : 1 ≤ every
  pub limit : every ≤ MOST_EVERY
