-- The recording and the report of a run, which are made and written where they have a name.
use Rattle.std.specs.Prelude.{ℕ, List, [], ◌∷◌, ◌++◌, if◌then◌else◌}
use Rattle.or_command_line.specs.Words.{is_no_file}
use Rattle.or_command.specs.Writes.{File}

-- the text that is made for a name: none for `-`
abbrev pub made_for : List ℕ → List ℕ → List ℕ
made_for name text = if is_no_file name then [] else text

-- the file that is written with it: none for `-`
abbrev pub written_for : List ℕ → List ℕ → List File
written_for name text = if is_no_file name then [] else record { name = name; text = text } ∷ []

-- the files of a recording and a report
abbrev pub written_files : List ℕ → List ℕ → List ℕ → List ℕ → List File
written_files schedule recording report text = written_for schedule recording ++ written_for report text
