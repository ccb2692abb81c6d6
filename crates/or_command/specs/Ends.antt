-- What a command comes to: its status, and the two lines that are said.
use Rattle.std.specs.Prelude.{ℕ, List, [], ◌++◌}
use Rattle.or_text.specs.Sentences.{sentence_text, sentence_line}
use Rattle.or_command.specs.declared.refusal.Refusal.{Refusal}
use Rattle.or_command.specs.declared.refusal.Refusal.TheVariants.{Image, Source, Schedule, Script, Symbols, NoFailure, SameFile}
use Rattle.or_command.specs.declared.outcome.Outcome.{Outcome}
use Rattle.or_command.specs.declared.outcome.Outcome.TheVariants.{Done, Unread, TooLong, Refused, Unwritten, NoMemory}
use Rattle.or_command.specs.Lines.{read_line, write_line, long_line, memory_line, image_line, source_line, schedule_line, script_line, symbols_line, no_failure_line, same_file_line}
use Rattle.or_command.specs.Sentences.{read_sentence, write_sentence, long_sentence, memory_sentence, no_failure_sentence, same_file_sentence, detail_sentence}

-- a check that failed: the status that it gives, the line, and the sentence behind it
pub record FailedCheck : Type 0 where
  pub status : ℕ
  pub line : List ℕ
  pub sentence : List ℕ

abbrev pub failed_check : Refusal → FailedCheck
failed_check (Image name fault place why) = record { status = 3; line = image_line name.now fault place; sentence = sentence_text why }
failed_check (Source name fault line why) = record { status = 9; line = source_line name.now fault line; sentence = sentence_text why }
failed_check (Schedule name detail) = record { status = 4; line = schedule_line name.now detail; sentence = detail_sentence detail }
failed_check (Script name fault line why) = record { status = 10; line = script_line name.now fault line; sentence = sentence_text why }
failed_check (Symbols name fault place why) = record { status = 12; line = symbols_line name.now fault place; sentence = sentence_text why }
failed_check (NoFailure tries) = record { status = 14; line = no_failure_line tries; sentence = no_failure_sentence }
failed_check (SameFile one other) = record { status = 16; line = same_file_line one.now other.now; sentence = same_file_sentence }

-- all was done, or what stopped the command
pub data CommandEnd : Type 0 where
  done : CommandEnd
  unread : List ℕ → CommandEnd
  too_long : List ℕ → ℕ → CommandEnd
  refused : FailedCheck → CommandEnd
  unwritten : List ℕ → CommandEnd
  no_memory : CommandEnd

abbrev pub end_of : Outcome → CommandEnd
end_of Done = done
end_of (Unread name) = unread name.now
end_of (TooLong name limit) = too_long name.now limit
end_of (Refused refusal) = refused (failed_check refusal)
end_of (Unwritten name) = unwritten name.now
end_of NoMemory = no_memory

abbrev pub status_of : CommandEnd → ℕ
status_of done = 0
status_of (unread name) = 5
status_of (too_long name limit) = 8
status_of (refused check) = check.status
status_of (unwritten name) = 6
status_of no_memory = 7

abbrev pub line_of : CommandEnd → List ℕ
line_of done = []
line_of (unread name) = read_line name
line_of (too_long name limit) = long_line name limit
line_of (refused check) = check.line
line_of (unwritten name) = write_line name
line_of no_memory = memory_line

-- the line behind it, for people
abbrev pub second_line_of : CommandEnd → List ℕ
second_line_of done = []
second_line_of (unread name) = sentence_line read_sentence
second_line_of (too_long name limit) = sentence_line (long_sentence limit)
second_line_of (refused check) = sentence_line check.sentence
second_line_of (unwritten name) = sentence_line (write_sentence name)
second_line_of no_memory = sentence_line memory_sentence

-- what is said of a command's end
abbrev pub lines_of : CommandEnd → List ℕ
lines_of end = line_of end ++ second_line_of end
