-- A recorded run: an image, a console's input and a recording of a run of them. The first of its checks that fails.
use Rattle.std.specs.Prelude.{◌≡◌, ◌≢◌, ◌⊎◌, ◌≤◌, ◌/◌, ℕ, List, [], Some, None, Err, take, length}
use Rattle.sha2.specs.Sha256.{sha256}
use Rattle.or_words.specs.Settings.{ram_bytes}
use Rattle.or_words.specs.declared.limits.TheConstants.{BLOCK}
use Rattle.or_elf.specs.declared.fault.ElfFault.{ElfFault}
use Rattle.or_elf.specs.Fault.{elf_fault}
use Rattle.or_sched.specs.declared.recording.Head.{Head}
use Rattle.or_sched.specs.declared.recording.Mark.{Mark}
use Rattle.or_sched.specs.declared.recording.RecFault.{RecFault}
use Rattle.or_sched.specs.declared.recording.RecFault.TheVariants.{BadHead, BadRun, Short, NoMemory as NoMemoryToRead}
use Rattle.or_sched.specs.Recording.{IsRecording, Begins, FaultAt, line_feeds, fault_name}
use Rattle.or_sched.specs.Reading.{IsFront, IsShort}
use Rattle.or_model.specs.Core.{Core}
use Rattle.or_model.specs.Turn.{Board, replay}
use Rattle.or_bus.specs.State.{BusState}
use Rattle.or_command.specs.declared.refusal.Digests.{Digests}
use Rattle.or_replay.specs.Start.{start}
use Rattle.or_replay.specs.Board.{IsBoard}
use Rattle.or_replay.specs.declared.follow.TurnFault.{TurnFault}
use Rattle.or_replay.specs.Following.{Followed, IsFollowable}
use Rattle.or_recorded.specs.declared.checked.Recording.{Recording}
use Rattle.or_recorded.specs.declared.checked.Checked.{Checked}
use Rattle.or_recorded.specs.declared.checked.RunFault.{RunFault}
use Rattle.or_recorded.specs.declared.checked.RunFault.TheVariants.{Text, NoMemoryForText, Image, Input, Elf, Turns, NoMemory}

-- the text is no recording: its first fault has this name, or it ends too early
pub record IsTextFault (recording : List ℕ) (fault : RecFault) : Type 0 where
  pub place : ℕ
  pub at : FaultAt recording place
  pub name : fault ≡ fault_name (take place recording)

-- memory ran out behind a beginning of the text, which has the whole head of a recording and no fault
pub record IsReadInPart (recording : List ℕ) : Type 0 where
  pub front : List ℕ
  pub is_front : IsFront front recording
  pub begins : Begins front
  pub lines : 4 ≤ line_feeds front

abbrev pub TextFault : List ℕ → RecFault → Type 0
TextFault recording (BadHead line) = IsTextFault recording (BadHead line)
TextFault recording (BadRun at) = IsTextFault recording (BadRun at)
TextFault recording Short = IsShort recording
TextFault recording NoMemoryToRead = IsReadInPart recording

-- the recording is one of a run of another image
pub record IsOtherImage (image recording : List ℕ) (digests : Digests) : Type 0 where
  pub head : Head
  pub turns : List ℕ
  pub marks : List Mark
  pub text : IsRecording recording head turns marks
  pub recorded : digests.recorded ≡ head.image
  pub found : digests.found ≡ sha256 image
  pub differ : head.image ≢ sha256 image

-- the recording is one of a run of this image and of these settings, with another input
pub record IsOtherInput (image input recording : List ℕ) (digests : Digests) : Type 0 where
  pub head : Head
  pub turns : List ℕ
  pub marks : List Mark
  pub text : IsRecording recording head turns marks
  pub same_image : head.image ≡ sha256 image
  pub recorded : digests.recorded ≡ head.input
  pub found : digests.found ≡ sha256 input
  pub differ : head.input ≢ sha256 input

-- the recording is one of a run of this image with this input, as far as the digests tell
pub record IsOfRun (image input recording : List ℕ) (head : Head) (turns : List ℕ) (marks : List Mark) : Type 0 where
  pub text : IsRecording recording head turns marks
  pub same_image : head.image ≡ sha256 image
  pub same_input : head.input ≡ sha256 input

-- the image has a fault, for the recorded size of RAM
pub record IsImageFault (image input recording : List ℕ) (fault : ElfFault) : Type 0 where
  pub head : Head
  pub turns : List ℕ
  pub marks : List Mark
  pub of_run : IsOfRun image input recording head turns marks
  pub fault_is : elf_fault image (ram_bytes head.config) ≡ Some fault

-- the first that refuses turns with their marks from a start
pub record IsRefusedBy (first : Board) (turns : List ℕ) (marks : List Mark) (fault : TurnFault) : Type 0 where
  pub last : Board
  pub followed : Followed BLOCK first turns marks (Err fault) last

-- the turns, with the marks of their blocks, can't be followed to an end at which every core has stopped
pub record IsTurnFault (image input recording : List ℕ) (fault : TurnFault) : Type 0 where
  pub head : Head
  pub turns : List ℕ
  pub marks : List Mark
  pub of_run : IsOfRun image input recording head turns marks
  pub sound : elf_fault image (ram_bytes head.config) ≡ None
  pub refused : IsRefusedBy (start head.config image input) turns marks fault

-- the recording is one of a run of this image with this input, and the image has no fault
pub record IsSoundRun (image input recording : List ℕ) : Type 0 where
  pub head : Head
  pub turns : List ℕ
  pub marks : List Mark
  pub of_run : IsOfRun image input recording head turns marks
  pub sound : elf_fault image (ram_bytes head.config) ≡ None

-- The first check that fails, in the order of these cases. Memory runs out while the text is read, or behind the checks of the
-- digests and of the image, which take none.
abbrev pub IsFirstFault : List ℕ → List ℕ → List ℕ → RunFault → Type 0
IsFirstFault image input recording (Text NoMemoryToRead) = ⊥
IsFirstFault image input recording (Text fault) = TextFault recording fault
IsFirstFault image input recording NoMemoryForText = IsReadInPart recording
IsFirstFault image input recording (Image digests) = IsOtherImage image recording digests
IsFirstFault image input recording (Input digests) = IsOtherInput image input recording digests
IsFirstFault image input recording (Elf fault) = IsImageFault image input recording fault
IsFirstFault image input recording (Turns fault) = IsTurnFault image input recording fault
IsFirstFault image input recording NoMemory = IsSoundRun image input recording

-- where memory ran out
abbrev pub RunsShort : List ℕ → List ℕ → List ℕ → Type 0
RunsShort image input recording = IsReadInPart recording ⊎ IsSoundRun image input recording

-- no check fails: the recording is one of a run of this image with this input, and leads from the start to an end
pub record IsChecked (image input recording : List ℕ) (head : Head) (turns : List ℕ) (marks : List Mark) : Type 0 where
  pub of_run : IsOfRun image input recording head turns marks
  pub sound : elf_fault image (ram_bytes head.config) ≡ None
  pub followable : IsFollowable (start head.config image input) turns marks

-- this is the board to which the turns lead from a start
pub record IsEndOf (first : Board) (turns : List ℕ) (cores : List Core) (bus : BusState) : Type 0 where
  pub last : Board
  pub reached : replay first turns ≡ Some last
  pub is : IsBoard cores bus last

-- a recording has marks of no block or of each
abbrev pub AreOfBlocks : List ℕ → List Mark → Type 0
AreOfBlocks turns marks = (marks ≡ []) ⊎ (length marks ≡ length turns / BLOCK)

-- a board at the end of a recording
pub record LeadsToEnd (first : Board) (recording : Recording) (run : Checked) : Type 0 where
  pub same : run.recording ≡ recording
  pub followable : IsFollowable first recording.turns.items recording.marks.items
  pub ended : IsEndOf first recording.turns.items run.board.cores run.board.bus

-- a recorded run before its first turn: of its checks those of the turns are left
pub record IsRunOpened (image input text : List ℕ) (run : Checked) : Type 0 where
  pub of_run : IsOfRun image input text run.recording.head run.recording.turns.items run.recording.marks.items
  pub sound : elf_fault image (ram_bytes run.recording.head.config) ≡ None
  pub is : IsBoard run.board.cores run.board.bus (start run.recording.head.config image input)

-- a recorded run whose checks have passed
pub record IsRunChecked (image input text : List ℕ) (run : Checked) : Type 0 where
  pub checked : IsChecked image input text run.recording.head run.recording.turns.items run.recording.marks.items
  pub ended : IsEndOf (start run.recording.head.config image input) run.recording.turns.items run.board.cores run.board.bus
