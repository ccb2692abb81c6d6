-- What is said to people behind the line of a command's end: the cause and, where there is one, the remedy.
use Rattle.std.specs.Prelude.{ℕ, ◌==◌, ◌++◌, if◌then◌else◌, List, codes, decimal}
use Rattle.std.specs.Str.{bytes_eq}
use Rattle.or_host.specs.Calls.{dash}
use Rattle.or_command.specs.declared.refusal.ScheduleDetail.{ScheduleDetail}
use Rattle.or_command.specs.declared.refusal.ScheduleDetail.TheVariants.{Head, At, Short, Image, Input, TurnStopped, CoreRunning, TurnWrites, TurnConsole}

abbrev pub read_sentence : List ℕ
read_sentence = codes "the file is not there, or the system failed to read it"

-- of a file, and of standard output
abbrev pub write_sentence : List ℕ → List ℕ
write_sentence name =
    if bytes_eq name dash then codes "the system took no more of standard output: is it closed, or the disk full?"
    else codes "the system failed to create or write the file: is its directory there, and is the disk full?"

abbrev pub long_sentence : ℕ → List ℕ
long_sentence limit = codes "the file has more than " ++ decimal limit ++ codes " bytes"

abbrev pub memory_sentence : List ℕ
memory_sentence = codes "the system gave no more memory"

abbrev pub no_failure_sentence : List ℕ
no_failure_sentence = codes "try other seeds with --seed, or more of them with --tries"

abbrev pub same_file_sentence : List ℕ
same_file_sentence = codes "the two names lead to one file: give each output a file of its own"

-- of a line of a recording's head
abbrev pub head_sentence : ℕ → List ℕ
head_sentence line =
    if line == 1 then codes "line 1 is not orsched 1 or orsched 2: is the file a recording?" else
    if line == 2 then codes "line 2 does not give the numbers of cores, budget and RAM in their form and ranges" else
    if line == 3 then codes "line 3 does not give the SHA-256 of the image" else
    codes "line 4 does not give the SHA-256 of the input"

-- of a recording that is refused
abbrev pub detail_sentence : ScheduleDetail → List ℕ
detail_sentence (Head line) = head_sentence line
detail_sentence (At place) = codes "unexpected byte at offset " ++ decimal place
detail_sentence Short = codes "the recording ends too early: is it cut off?"
detail_sentence (Image digests) = codes "recorded from another image"
detail_sentence (Input digests) = codes "recorded from another input"
detail_sentence (TurnStopped turn) = codes "the core of turn " ++ decimal turn ++ codes ", counted from 0, has stopped before it"
detail_sentence (CoreRunning core) = codes "core " ++ decimal core ++ codes " has not stopped after the last turn: are turns missing?"
detail_sentence (TurnWrites turn recorded found) =
    codes "after " ++ decimal turn ++ codes " turns the recording counts " ++ decimal recorded ++ codes " writes to RAM, the replay " ++ decimal found
detail_sentence (TurnConsole turn recorded found) =
    codes "after " ++ decimal turn ++ codes " turns the recording counts " ++ decimal recorded ++ codes " console bytes, the replay " ++ decimal found
