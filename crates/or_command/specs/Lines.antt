-- The lines that are said of a command's end.
use Rattle.std.specs.Prelude.{ℕ, ◌++◌, List, codes, decimal}
use Rattle.or_text.specs.Hexadecimal.{digest_text}
use Rattle.or_text.specs.Sentences.{sentence_line}
use Rattle.or_command.specs.declared.refusal.ScheduleDetail.{ScheduleDetail}
use Rattle.or_command.specs.declared.refusal.ScheduleDetail.TheVariants.{Head, At, Short, Image, Input, TurnStopped, CoreRunning, TurnWrites, TurnConsole}

abbrev pub usage_line : List ℕ
usage_line = codes "or1k: usage\n"

-- with why the words are no command
abbrev pub usage_lines : List ℕ → List ℕ
usage_lines sentence = usage_line ++ sentence_line sentence

abbrev pub memory_line : List ℕ
memory_line = codes "or1k: no memory\n"

abbrev pub read_line : List ℕ → List ℕ
read_line name = codes "or1k: read " ++ name ++ codes "\n"

abbrev pub write_line : List ℕ → List ℕ
write_line name = codes "or1k: write " ++ name ++ codes "\n"

abbrev pub long_line : List ℕ → ℕ → List ℕ
long_line name limit = codes "or1k: too long " ++ name ++ codes " " ++ decimal limit ++ codes "\n"

abbrev pub image_line : List ℕ → ℕ → ℕ → List ℕ
image_line name fault place = codes "or1k: image " ++ name ++ codes " fault " ++ decimal fault ++ codes " " ++ decimal place ++ codes "\n"

abbrev pub symbols_line : List ℕ → ℕ → ℕ → List ℕ
symbols_line name fault place = codes "or1k: symbols " ++ name ++ codes " fault " ++ decimal fault ++ codes " " ++ decimal place ++ codes "\n"

abbrev pub source_line : List ℕ → ℕ → ℕ → List ℕ
source_line name fault line = codes "or1k: source " ++ name ++ codes " fault " ++ decimal fault ++ codes " line " ++ decimal line ++ codes "\n"

abbrev pub script_line : List ℕ → ℕ → ℕ → List ℕ
script_line name fault line = codes "or1k: script " ++ name ++ codes " fault " ++ decimal fault ++ codes " line " ++ decimal line ++ codes "\n"

abbrev pub no_failure_line : ℕ → List ℕ
no_failure_line tries = codes "or1k: no failure in " ++ decimal tries ++ codes " tries\n"

abbrev pub same_file_line : List ℕ → List ℕ → List ℕ
same_file_line one other = codes "or1k: same file " ++ one ++ codes " " ++ other ++ codes "\n"

-- said while a hunt goes on
abbrev pub tries_line : ℕ → List ℕ
tries_line tries = codes "or1k: " ++ decimal tries ++ codes " tries, no failure\n"

-- why a recording is refused: where two values stand, the recorded one comes first and then the one that was found
abbrev pub detail_text : ScheduleDetail → List ℕ
detail_text (Head line) = codes "head " ++ decimal line
detail_text (At place) = codes "at " ++ decimal place
detail_text Short = codes "short"
detail_text (Image digests) = codes "image " ++ digest_text digests.recorded ++ codes " " ++ digest_text digests.found
detail_text (Input digests) = codes "input " ++ digest_text digests.recorded ++ codes " " ++ digest_text digests.found
detail_text (TurnStopped turn) = codes "turn " ++ decimal turn ++ codes " stopped"
detail_text (CoreRunning core) = codes "core " ++ decimal core ++ codes " running"
detail_text (TurnWrites turn recorded found) = codes "turn " ++ decimal turn ++ codes " writes " ++ decimal recorded ++ codes " " ++ decimal found
detail_text (TurnConsole turn recorded found) = codes "turn " ++ decimal turn ++ codes " console " ++ decimal recorded ++ codes " " ++ decimal found

abbrev pub schedule_line : List ℕ → ScheduleDetail → List ℕ
schedule_line name detail = codes "or1k: schedule " ++ name ++ codes " " ++ detail_text detail ++ codes "\n"
