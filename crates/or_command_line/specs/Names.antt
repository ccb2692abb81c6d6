-- The names of files that a command line gives.
use Rattle.std.specs.Prelude.{ℕ, List, Bool, ◌≢◌, ◌&&◌}
use Rattle.or_command_line.specs.declared.Run.{Run}
use Rattle.or_command_line.specs.declared.Hunt.{Hunt}
use Rattle.or_command_line.specs.declared.Recorded.{Recorded as RecordedWords}
use Rattle.or_command_line.specs.Words.{is_name, is_optional, differ, IsFileName, IsOptionalName, AreDifferent}

-- the files of a recorded run, with `-` for no input
pub record Recorded : Type 0 where
  pub image : List ℕ
  pub input : List ℕ
  pub schedule : List ℕ

-- the files of a run, with `-` for an input, a schedule or a report that it does without
pub record Names : Type 0 where
  pub image : List ℕ
  pub input : List ℕ
  pub schedule : List ℕ
  pub report : List ℕ

-- the recorded run that a run leaves
abbrev pub recorded : Names → Recorded
recorded names = record { image = names.image; input = names.input; schedule = names.schedule }

-- what the code's names show
abbrev pub recorded_names : RecordedWords → Recorded
recorded_names words = record { image = words.image.now; input = words.input.now; schedule = words.schedule.now }

abbrev pub run_names : Run → Names
run_names words = record { image = words.image.now; input = words.input.now; schedule = words.schedule.now; report = words.report.now }

-- the files of a run, its report beside them
abbrev pub written_names : RecordedWords → List ℕ → Names
written_names words report = record { image = words.image.now; input = words.input.now; schedule = words.schedule.now; report = report }

abbrev pub hunt_names : Hunt → Names
hunt_names words = record { image = words.image.now; input = words.input.now; schedule = words.schedule.now; report = words.report.now }

-- all words are names
abbrev pub are_recorded : Recorded → Bool
are_recorded files = is_name files.image && (is_optional files.input && is_name files.schedule)

-- a report's name, which differs from each other one, or `-`
abbrev pub is_report : Recorded → List ℕ → Bool
is_report files report = is_optional report && ((differ report files.image && differ report files.input) && differ report files.schedule)

-- a run also writes the schedule, which may be `-` too
abbrev pub is_written_schedule : Recorded → Bool
is_written_schedule files = is_optional files.schedule && (differ files.schedule files.image && differ files.schedule files.input)

abbrev pub are_run_names : Names → Bool
are_run_names names =
    (is_name names.image && is_optional names.input)
    && (is_written_schedule (recorded names) && is_report (recorded names) names.report)

-- what names are to a host: those that are written differ from each other name
pub record AreRecorded (files : Recorded) : Type 0 where
  pub image : IsFileName files.image
  pub input : IsOptionalName files.input
  pub schedule : IsFileName files.schedule

pub record IsReport (files : Recorded) (report : List ℕ) : Type 0 where
  pub name : IsOptionalName report
  pub image : AreDifferent report files.image
  pub input : AreDifferent report files.input
  pub schedule : AreDifferent report files.schedule

pub record IsWrittenSchedule (files : Recorded) : Type 0 where
  pub name : IsOptionalName files.schedule
  pub image : AreDifferent files.schedule files.image
  pub input : AreDifferent files.schedule files.input

pub record AreWritten (names : Names) : Type 0 where
  pub image : IsFileName names.image
  pub input : IsOptionalName names.input
  pub schedule : IsWrittenSchedule (recorded names)
  pub report : IsReport (recorded names) names.report

-- a source, and the image that is written of it
pub record IsAssembly (source image : List ℕ) : Type 0 where
  pub source_name : IsFileName source
  pub image_name : IsFileName image
  pub apart : image ≢ source
