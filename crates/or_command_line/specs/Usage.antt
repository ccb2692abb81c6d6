-- Why words are no command: what is said of the first of them that is wrong.
use Rattle.std.specs.Prelude.{ℕ, List, [], ◌∷◌, ◌++◌, if◌then◌else◌, Ok, codes}
use Rattle.std.specs.Str.{bytes_eq}
use Rattle.or_words.specs.declared.limits.TheConstants.{MOST_CORES, MOST_BUDGET, MOST_RAM, MOST_STAY, MOST_FIRST_SEED, MOST_TRIES, MOST_EVERY, MOST_ROUNDS}
use Rattle.or_command_line.specs.declared.reading.Value.TheVariants.{Number, Latched}
use Rattle.or_command_line.specs.Reading.{SoFar, then_file, then_optional, then_number, then_option, then_flag, then_apart, then_end}

-- the words from the first on
abbrev pub start : List (List ℕ) → SoFar
start words = Ok ([], words)

-- `IMAGE INPUT`
abbrev pub image_words : List ℕ → List (List ℕ) → SoFar
image_words verb words = then_optional verb (codes "INPUT") (then_file verb (codes "IMAGE") (start words))

-- `IMAGE INPUT SCHED`
abbrev pub recorded_words : List ℕ → List (List ℕ) → SoFar
recorded_words verb words = then_file verb (codes "SCHED") (image_words verb words)

-- a report's name differs from each other one
unfoldable pub report_apart : List ℕ → List ℕ → List ℕ → List ℕ → List ℕ → SoFar → SoFar
report_apart verb image input schedule report so_far =
    then_apart verb report schedule (codes "SCHED and REPORT")
    (then_apart verb report input (codes "INPUT and REPORT")
    (then_apart verb report image (codes "IMAGE and REPORT") so_far))

abbrev pub with_report : List ℕ → List (List ℕ) → SoFar → SoFar
with_report verb (image ∷ input ∷ schedule ∷ report ∷ others) so_far = report_apart verb image input schedule report so_far
with_report verb _ so_far = so_far

-- a run and a hunt also write the schedule
unfoldable pub schedule_apart : List ℕ → List ℕ → List ℕ → List ℕ → SoFar → SoFar
schedule_apart verb image input schedule so_far =
    then_apart verb schedule input (codes "INPUT and SCHED")
    (then_apart verb schedule image (codes "IMAGE and SCHED") so_far)

abbrev pub with_schedule : List ℕ → List (List ℕ) → SoFar → SoFar
with_schedule verb (image ∷ input ∷ schedule ∷ others) so_far = schedule_apart verb image input schedule so_far
with_schedule verb _ so_far = so_far

-- `IMAGE INPUT SCHED REPORT [--cores N] [--budget N] [--ram N] [--pic latched]`
abbrev pub board_words : List ℕ → List (List ℕ) → SoFar
board_words verb words =
    then_option verb (codes "--pic") Latched
    (then_option verb (codes "--ram") (Number 1 MOST_RAM)
    (then_option verb (codes "--budget") (Number 1 MOST_BUDGET)
    (then_option verb (codes "--cores") (Number 1 MOST_CORES)
    (with_schedule verb words (with_report verb words
    (then_optional verb (codes "REPORT") (then_optional verb (codes "SCHED") (image_words verb words))))))))

-- with `[--stay N] [--status]`
abbrev pub run_usage : List (List ℕ) → List ℕ
run_usage words =
    then_end (codes "run") words
    (then_flag (codes "--status")
    (then_option (codes "run") (codes "--stay") (Number 1 MOST_STAY) (board_words (codes "run") words)))

-- with `[--seed N] [--tries N]`
abbrev pub hunt_usage : List (List ℕ) → List ℕ
hunt_usage words =
    then_end (codes "hunt") words
    (then_option (codes "hunt") (codes "--tries") (Number 1 MOST_TRIES)
    (then_option (codes "hunt") (codes "--seed") (Number 0 MOST_FIRST_SEED) (board_words (codes "hunt") words)))

-- `IMAGE INPUT SCHED REPORT`
abbrev pub replay_usage : List (List ℕ) → List ℕ
replay_usage words =
    then_end (codes "replay") words
    (with_report (codes "replay") words
    (then_optional (codes "replay") (codes "REPORT") (recorded_words (codes "replay") words)))

-- `IMAGE INPUT SCHED SCRIPT`
abbrev pub session_words : List ℕ → List (List ℕ) → SoFar
session_words verb words = then_file verb (codes "SCRIPT") (recorded_words verb words)

abbrev pub debug_usage : List (List ℕ) → List ℕ
debug_usage words = then_end (codes "debug") words (session_words (codes "debug") words)

-- `IMAGE INPUT SCHED SCRIPT [--every N]`
abbrev pub back_usage : List (List ℕ) → List ℕ
back_usage words = then_end (codes "back") words (then_option (codes "back") (codes "--every") (Number 1 MOST_EVERY) (session_words (codes "back") words))

-- `IMAGE INPUT SCHED [--locks] [--where]`
abbrev pub race_usage : List (List ℕ) → List ℕ
race_usage words = then_end (codes "race") words (then_flag (codes "--where") (then_flag (codes "--locks") (recorded_words (codes "race") words)))

-- `IMAGE INPUT SCHED [--core N] [--from T] [--to T]`
abbrev pub trace_usage : List (List ℕ) → List ℕ
trace_usage words =
    then_end (codes "trace") words
    (then_option (codes "trace") (codes "--to") (Number 1 4294967295)
    (then_option (codes "trace") (codes "--from") (Number 1 4294967295)
    (then_option (codes "trace") (codes "--core") (Number 0 7) (recorded_words (codes "trace") words))))

-- `IMAGE INPUT SCHED [--hot]`
abbrev pub prof_usage : List (List ℕ) → List ℕ
prof_usage words = then_end (codes "prof") words (then_flag (codes "--hot") (recorded_words (codes "prof") words))

-- `SRC IMAGE [--symbols]`
unfoldable pub image_apart : List ℕ → List ℕ → SoFar → SoFar
image_apart source image so_far = then_apart (codes "asm") image source (codes "SRC and IMAGE") so_far

abbrev pub with_image : List (List ℕ) → SoFar → SoFar
with_image (source ∷ image ∷ others) so_far = image_apart source image so_far
with_image _ so_far = so_far

abbrev pub asm_usage : List (List ℕ) → List ℕ
asm_usage words =
    then_end (codes "asm") words
    (then_flag (codes "--symbols")
    (with_image words
    (then_file (codes "asm") (codes "IMAGE") (then_file (codes "asm") (codes "SRC") (start words)))))

-- `IMAGE`
abbrev pub dis_usage : List (List ℕ) → List ℕ
dis_usage words = then_end (codes "dis") words (then_file (codes "dis") (codes "IMAGE") (start words))

-- `SEED CORES ROUNDS`
abbrev pub workload_words : List ℕ → List (List ℕ) → SoFar
workload_words verb words =
    then_number verb (codes "ROUNDS") (Number 1 MOST_ROUNDS)
    (then_number verb (codes "CORES") (Number 1 MOST_CORES)
    (then_number verb (codes "SEED") (Number 0 4294967295) (start words)))

-- `SEED CORES ROUNDS SRC`
abbrev pub gen_usage : List (List ℕ) → List ℕ
gen_usage words = then_end (codes "gen") words (then_file (codes "gen") (codes "SRC") (workload_words (codes "gen") words))

-- `SEED CORES ROUNDS SCHED [--stay N]`
abbrev pub bench_usage : List (List ℕ) → List ℕ
bench_usage words =
    then_end (codes "bench") words
    (then_option (codes "bench") (codes "--stay") (Number 1 MOST_STAY)
    (then_file (codes "bench") (codes "SCHED") (workload_words (codes "bench") words)))

-- of the commands that run, write or read programs, and of the names of none
abbrev pub program_usage : List ℕ → List (List ℕ) → List ℕ
program_usage verb words =
    if bytes_eq verb (codes "run") then run_usage words else
    if bytes_eq verb (codes "hunt") then hunt_usage words else
    if bytes_eq verb (codes "bench") then bench_usage words else
    if bytes_eq verb (codes "gen") then gen_usage words else
    if bytes_eq verb (codes "asm") then asm_usage words else
    if bytes_eq verb (codes "dis") then dis_usage words else
    codes "there is no command " ++ verb

-- why words are no command
unfoldable pub usage_sentence : List (List ℕ) → List ℕ
usage_sentence [] = codes "the command is missing: or1k --help has them all"
usage_sentence (verb ∷ words) =
    if bytes_eq verb (codes "replay") then replay_usage words else
    if bytes_eq verb (codes "debug") then debug_usage words else
    if bytes_eq verb (codes "back") then back_usage words else
    if bytes_eq verb (codes "race") then race_usage words else
    if bytes_eq verb (codes "prof") then prof_usage words else
    if bytes_eq verb (codes "trace") then trace_usage words else
    program_usage verb words
