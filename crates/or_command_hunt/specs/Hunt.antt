-- What the command `hunt` loads, checks and writes.
use Rattle.std.specs.Prelude.{◌≡◌, ◌+◌, ◌⊎◌, ℕ, List, [], ◌++◌, Option, Some, None, length, codes, decimal, true, if◌then◌else◌}
use Rattle.std.specs.List.{flat_map}
use Rattle.or_words.specs.Settings.{ram_bytes}
use Rattle.or_elf.specs.Fault.{elf_fault}
use Rattle.or_sched.specs.declared.recording.Head.{Head}
use Rattle.or_sched.specs.RecText.{rec_text2}
use Rattle.or_text.specs.Hexadecimal.{word_text}
use Rattle.or_model.specs.declared.Stop.{Stop}
use Rattle.or_model.specs.declared.Stop.TheVariants.{Exit, Budget}
use Rattle.or_model.specs.Core.{Core}
use Rattle.or_model.specs.Turn.{Board, replay}
use Rattle.or_replay.specs.Start.{start}
use Rattle.or_replay.specs.Board.{all_stopped}
use Rattle.or_replay.specs.Marks.{marks}
use Rattle.or_replay.specs.Failing.{fails}
use Rattle.or_replay.specs.Report.{report_text}
use Rattle.or_hunt.specs.Drawn.{drawn}
use Rattle.or_hunt.specs.Failing.{NoneFails, IsLeastFailing}
use Rattle.or_host.specs.HostState.{HostState}
use Rattle.or_command_line.specs.declared.HuntOptions.{HuntOptions}
use Rattle.or_command_line.specs.Names.{Names}
use Rattle.or_command.specs.Loads.{Load}
use Rattle.or_command.specs.Lines.{no_failure_line}
use Rattle.or_command.specs.Sentences.{no_failure_sentence}
use Rattle.or_command.specs.Writes.{File}
use Rattle.or_command.specs.Ends.{FailedCheck}
use Rattle.or_command.specs.Outcomes.{LacksMemory}
use Rattle.or_command.specs.Answered.{AnswersBy, IsDecidedBy}
use Rattle.or_command_image.specs.Loaded.{image_loads, image_in, input_in, image_check}
use Rattle.or_command_image.specs.Opened.{head_of}
use Rattle.or_command_image.specs.Written.{made_for, written_files}
use Rattle.or_command_hunt.specs.Tries.{IsHeard}

abbrev pub hunt_loads : Names → List Load
hunt_loads names = image_loads names.image names.input

-- the image has no fault for this size of RAM
abbrev pub hunt_image_check : Names → HuntOptions → List (List ℕ) → Option FailedCheck
hunt_image_check names options files = image_check names.image (elf_fault (image_in files) (ram_bytes options.config))

-- where memory ran out, the image has no fault, if it was read
abbrev pub HuntLacks : Names → HuntOptions → HostState → HostState → Type 0
HuntLacks names options = LacksMemory (hunt_loads names) (λ files. hunt_image_check names options files ≡ None)

-- the board that each try begins with
abbrev pub hunt_start : HuntOptions → List (List ℕ) → Board
hunt_start options files = start options.config (image_in files) (input_in files)

-- no core failed in so many tries
abbrev pub no_failure : ℕ → FailedCheck
no_failure tries = record { status = 14; line = no_failure_line tries; sentence = no_failure_sentence }

-- the least seed of the range on which a core fails
pub record SomeFails (options : HuntOptions) (files : List (List ℕ)) : Type 0 where
  pub seed : ℕ
  pub least : IsLeastFailing (hunt_start options files) options.seed options.tries seed

-- no seed of the range fails
pub record AllPass (options : HuntOptions) (files : List (List ℕ)) (fault : FailedCheck) : Type 0 where
  pub none : NoneFails (hunt_start options files) options.seed options.tries
  pub told : fault ≡ no_failure options.tries

-- The image has no fault, and then some seed of the range fails; the first check that fails is of the image as with `run`, and
-- then that no seed does.
abbrev pub HuntVerdict : Names → HuntOptions → List (List ℕ) → Option FailedCheck → Type 0
HuntVerdict names options files None = (hunt_image_check names options files ≡ None) × SomeFails options files
HuntVerdict names options files (Some fault) =
    (hunt_image_check names options files ≡ Some fault) ⊎ ((hunt_image_check names options files ≡ None) × AllPass options files fault)

-- how a core fails
abbrev pub failure_text : Option Stop → List ℕ
failure_text None = []
failure_text (Some Budget) = codes "budget"
failure_text (Some (Exit word)) = codes "exit " ++ word_text word

-- the line of a core that fails
abbrev pub failed_text : Core → List ℕ
failed_text core = if fails core.stop then (codes "core " ++ decimal core.number ++ codes " " ++ failure_text core.stop ++ codes "\n") else []

-- the seed, how many were tried up to it, and how many turns its schedule has; then the cores that fail
unfoldable pub hunt_text : ℕ → ℕ → ℕ → List Core → List ℕ
hunt_text seed count turns cores =
    codes "hunt seed " ++ decimal seed ++ codes " try " ++ decimal count ++ codes " turns " ++ decimal turns ++ codes "\n" ++ flat_map failed_text cores

-- the recording of the schedule that is drawn of a seed and the report of the board to which it leads, each where it has a name, and
-- what is told of them
pub record IsHunted (names : Names) (first : Board) (head : Head) (from seed : ℕ) (recording report text : List ℕ) : Type 0 where
  pub last : Board
  pub replayed : replay first (drawn first seed) ≡ Some last
  pub stopped : all_stopped last.cores ≡ true
  pub recorded : recording ≡ made_for names.schedule (rec_text2 head (drawn first seed) (marks first (drawn first seed)))
  pub reported : report ≡ made_for names.report (report_text last (length (drawn first seed)))
  pub count : ℕ
  pub counted : from + count ≡ seed + 1
  pub told : text ≡ hunt_text seed count (length (drawn first seed)) last.cores

-- the files that a hunt writes, and its text to standard output: those of the least seed of the range that fails
pub record HuntWrites (names : Names) (options : HuntOptions) (files : List (List ℕ)) (outs : List File) (console : List ℕ) : Type 0 where
  pub seed : ℕ
  pub least : IsLeastFailing (hunt_start options files) options.seed options.tries seed
  pub recording : List ℕ
  pub report : List ℕ
  pub hunted : IsHunted names (hunt_start options files) (head_of options.config (image_in files) (input_in files)) options.seed seed recording report console
  pub outputs : outs ≡ written_files names.schedule recording names.report report

-- what the command answers, and what stands then, behind the lines of the tries
pub record HuntAnswers (names : Names) (options : HuntOptions) (status : ℕ) (old new : HostState) : Type 0 where
  pub heard : HostState
  pub tries : IsHeard options.tries old heard
  pub answers : AnswersBy (hunt_loads names) (HuntVerdict names options) (HuntWrites names options) (HuntLacks names options) status heard new

-- where no fault came, the files decide the status, or memory ran out
pub record HuntDecided (names : Names) (options : HuntOptions) (status : ℕ) (old new : HostState) : Type 0 where
  pub heard : HostState
  pub tries : IsHeard options.tries old heard
  pub decided : IsDecidedBy (hunt_loads names) (HuntVerdict names options) (HuntWrites names options) (HuntLacks names options) status heard new
