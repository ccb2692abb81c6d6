-- The files of a command on a recorded run: their names, the order in which they are loaded, and their bytes.
use Rattle.std.specs.Prelude.{◌≢◌, ℕ, List, [], ◌∷◌, ◌++◌, Option, Some, None, IfSome, if◌then◌else◌}
use Rattle.std.specs.Borrow.{Bor}
use Rattle.or_words.specs.declared.limits.TheConstants.{SCRIPT_LIMIT}
use Rattle.or_command.specs.Loads.{Load}
use Rattle.or_command.specs.Writes.{File}
use Rattle.or_command_line.specs.Words.{is_no_file, IsFileName}
use Rattle.or_command_line.specs.Names.{Recorded, recorded_names, AreRecorded, IsReport}
use Rattle.or_command_image.specs.Loaded.{recorded_loads, file_at}
use Rattle.or_command_image.specs.Written.{written_for}
use Rattle.or_recorded.specs.declared.files.Names.{Names as NamesWords}
use Rattle.or_recorded.specs.declared.files.Files.{Files as FilesRead}

-- the names of a recorded run's files, with that of a script where one is read, and that of a report where one is written
pub record Names : Type 0 where
  pub run : Recorded
  pub script : Option (List ℕ)
  pub report : Option (List ℕ)

-- the files of a recorded run alone
abbrev pub run_alone : Recorded → Names
run_alone run = record { run = run; script = None; report = None }

-- with a script behind them
abbrev pub with_script : Recorded → List ℕ → Names
with_script run script = record { run = run; script = Some script; report = None }

-- with a report that is written
abbrev pub with_report : Recorded → List ℕ → Names
with_report run report = record { run = run; script = None; report = Some report }

abbrev pub script_loads : Option (List ℕ) → List Load
script_loads None = []
script_loads (Some name) = record { name = name; limit = SCRIPT_LIMIT } ∷ []

-- the image, the input where its name is not `-`, the recording and the script
abbrev pub loads : Names → List Load
loads names = recorded_loads names.run.image names.run.input names.run.schedule ++ script_loads names.script

-- the bytes of the files; those that are not there are empty
pub record Files : Type 0 where
  pub image : List ℕ
  pub input : List ℕ
  pub recording : List ℕ
  pub script : List ℕ

-- the files among those that were loaded, in their order
abbrev pub files_in : Names → List (List ℕ) → Files
files_in names read = record {
  image = file_at read 0;
  input = if is_no_file names.run.input then [] else file_at read 1;
  recording = if is_no_file names.run.input then file_at read 1 else file_at read 2;
  script = if is_no_file names.run.input then file_at read 2 else file_at read 3;
}

-- the report, where one is written; `-` stands for none
abbrev pub outs_of : Option (List ℕ) → List ℕ → List File
outs_of None report = []
outs_of (Some name) report = written_for name report

-- what names are to a host: those that are written differ from each other name
pub record AreNames (names : Names) : Type 0 where
  pub run : AreRecorded names.run
  pub script : IfSome names.script IsFileName
  pub report : IfSome names.report (IsReport names.run)
  pub apart : IfSome names.report (λ report. IfSome names.script (λ script. report ≢ script))

-- what the code's names and files show
abbrev pub shown_name : Option (Bor (List ℕ)) → Option (List ℕ)
shown_name None = None
shown_name (Some name) = Some name.now

abbrev pub names_of : NamesWords → Names
names_of words = record { run = recorded_names words.run; script = shown_name words.script; report = shown_name words.report }

abbrev pub bytes_of_files : FilesRead → Files
bytes_of_files files = record { image = files.image.now; input = files.input.now; recording = files.recording.now; script = files.script.now }
