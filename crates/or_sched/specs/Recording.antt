-- What text is a recording, where a text stops being the beginning of one, and what has ended in a beginning.
use Rattle.std.specs.Prelude.{◌≡◌, ℕ, ◌+◌, ◌-◌, ◌<◌, ◌==◌, List, [], ◌++◌, take, length, map, count_by, false, ◌⊎◌, if◌then◌else◌, nat_lt}
use Rattle.or_words.specs.Settings.{Fits}
use Rattle.or_words.specs.declared.limits.TheConstants.{BLOCK}
use Rattle.or_sched.specs.declared.recording.Head.{Head}
use Rattle.or_sched.specs.declared.recording.Mark.{Mark}
use Rattle.or_sched.specs.declared.recording.RecFault.{RecFault}
use Rattle.or_sched.specs.declared.recording.RecFault.TheVariants.{BadHead, BadRun}
use Rattle.or_sched.specs.RecText.{rec_text1, rec_text2}
use Rattle.or_sched.specs.HeadText.{IsDigest, head_text1, head_text2}
use Rattle.or_sched.specs.Schedule.{IsSchedule, AreMarks}
use Rattle.or_sched.specs.Runs.{runs}
use Rattle.or_sched.specs.Blocks.{Item, run_item, blocks_items, turns_of, marks_of}
use Rattle.or_sched.specs.Ended.{ended_in}

-- a head that a recording can have
pub record IsHead (head : Head) : Type 0 where
  pub settings : Fits head.config
  pub image : IsDigest head.image
  pub input : IsDigest head.input

pub record IsRecording1 (bytes : List ℕ) (head : Head) (turns : List ℕ) : Type 0 where
  pub text : bytes ≡ rec_text1 head turns
  pub is_head : IsHead head
  pub level : head.config.latched ≡ false
  pub schedule : IsSchedule head.config turns

pub record IsRecording2 (bytes : List ℕ) (head : Head) (turns : List ℕ) (marks : List Mark) : Type 0 where
  pub text : bytes ≡ rec_text2 head turns marks
  pub is_head : IsHead head
  pub schedule : IsSchedule head.config turns
  pub are_marks : AreMarks turns marks

-- a recording of either version; in version 1 there are no marks
abbrev pub IsRecording : List ℕ → Head → List ℕ → List Mark → Type 0
IsRecording bytes head turns marks = (IsRecording1 bytes head turns × (marks ≡ [])) ⊎ IsRecording2 bytes head turns marks

-- some recording begins with these bytes
pub record Begins (bytes : List ℕ) : Type 0 where
  pub rest : List ℕ
  pub head : Head
  pub turns : List ℕ
  pub marks : List Mark
  pub is : IsRecording (bytes ++ rest) head turns marks

-- the least place up to and including which no recording begins with these bytes
pub record FaultAt (bytes : List ℕ) (place : ℕ) : Type 0 where
  pub within : place < length bytes
  pub before : Begins (take place bytes)
  pub here : Begins (take (place + 1) bytes) → ⊥

-- how many lines have ended
abbrev pub line_feeds : List ℕ → ℕ
line_feeds bytes = count_by (λ byte. byte == 10) bytes

-- in the first four lines, their line feeds among them, a fault is named by its line, and behind them by its place
abbrev pub fault_name : List ℕ → RecFault
fault_name front = if nat_lt (line_feeds front) 4 then BadHead (line_feeds front + 1) else BadRun (length front)

-- the turns and the marks of the items that have ended in the first `n` bytes behind the head
pub record AreEnded (n : ℕ) (items : List Item) (turns : List ℕ) (marks : List Mark) : Type 0 where
  pub turns_are : turns ≡ turns_of (ended_in 16 n items)
  pub marks_are : marks ≡ marks_of (ended_in 16 n items)

-- in the beginning of a recording, the turns of the runs and the marks that have ended in it, however it goes on
pub record Ended (front : List ℕ) (turns : List ℕ) (marks : List Mark) : Type 0 where
  pub version1 : (rest : List ℕ) (head : Head) (all : List ℕ) → IsRecording1 (front ++ rest) head all
      → AreEnded (length front - length (head_text1 head)) (map run_item (runs all)) turns marks
  pub version2 : (rest : List ℕ) (head : Head) (all : List ℕ) (all_marks : List Mark) → IsRecording2 (front ++ rest) head all all_marks
      → AreEnded (length front - length (head_text2 head)) (blocks_items BLOCK all_marks all) turns marks

-- the longest beginning of these bytes with which some recording begins
pub record IsReadable (bytes front : List ℕ) : Type 0 where
  pub rest : List ℕ
  pub parts : bytes ≡ front ++ rest
  pub begins : Begins front
  pub longest : (rest ≡ []) ⊎ FaultAt bytes (length front)
