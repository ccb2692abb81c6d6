-- What is told of a run to its end.
use Rattle.std.specs.Prelude.{◌≡◌, ℕ, List, Some, true}
use Rattle.or_sched.specs.declared.recording.Head.{Head}
use Rattle.or_sched.specs.RecText.{rec_text2}
use Rattle.or_model.specs.Turn.{Board, replay}
use Rattle.or_replay.specs.Marks.{marks}
use Rattle.or_replay.specs.Board.{all_stopped}
use Rattle.or_parts.specs.Devices.{console_of}

-- a schedule that leads from a start to a board on which every core has stopped, the recording of it behind this head, and
-- the console of that board
pub record IsRecorded (first : Board) (head : Head) (recording console : List ℕ) : Type 0 where
  pub schedule : List ℕ
  pub last : Board
  pub replayed : replay first schedule ≡ Some last
  pub stopped : all_stopped last.cores ≡ true
  pub recorded : recording ≡ rec_text2 head schedule (marks first schedule)
  pub shown : console ≡ console_of last.world.devices
