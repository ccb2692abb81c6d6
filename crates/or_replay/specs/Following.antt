-- A schedule that is followed from a board with the marks that were kept of it, and the first that refuses it: a turn, a
-- mark, or, behind them all, a core that has not stopped.
use Rattle.std.specs.Prelude.{◌≡◌, ◌≢◌, ◌≤◌, ◌<◌, ℕ, ◌+◌, ◌*◌, List, [], Some, None, Result, Ok, Err, true, length, take, slice_get, ◌⊎◌}
use Rattle.or_sched.specs.declared.recording.Mark.{Mark}
use Rattle.or_model.specs.Core.{Core}
use Rattle.or_model.specs.Turn.{Board, replay}
use Rattle.or_bus.specs.State.{BusState}
use Rattle.or_replay.specs.Board.{IsBoard, RunsAt, RefusedBy, all_stopped}
use Rattle.or_replay.specs.Marks.{mark_of, mark_after, marks}
use Rattle.or_replay.specs.declared.board.Refused.{Refused}
use Rattle.or_replay.specs.declared.board.Refused.TheVariants.{NoSuchCore, CoreStopped}
use Rattle.or_replay.specs.declared.follow.TurnFault.{TurnFault}
use Rattle.or_replay.specs.declared.follow.TurnFault.TheVariants.{NoCore, Stopped, Running, Writes, Console}

-- each mark that was kept of a block within the first n turns is that of the board's history
abbrev pub AgreeWithin : ℕ → Board → List ℕ → List Mark → ℕ → Type 0
AgreeWithin block start turns given n =
    (k : ℕ) (mark : Mark) → slice_get given k ≡ Some mark → block * (k + 1) ≤ n → mark ≡ mark_after (replay start (take (block * (k + 1)) turns))

-- the first n turns lead to this board, and the marks that were kept of them agree
pub record LeadsTo (block : ℕ) (start : Board) (turns : List ℕ) (given : List Mark) (n : ℕ) (now : Board) : Type 0 where
  pub reached : replay start (take n turns) ≡ Some now
  pub agree : AgreeWithin block start turns given n

-- the turn behind the first n is refused
pub record TurnRefused (block : ℕ) (start : Board) (turns : List ℕ) (given : List Mark) (n : ℕ) (refused : Refused) (now : Board) : Type 0 where
  pub before : LeadsTo block start turns given n now
  pub core : ℕ
  pub turn : slice_get turns n ≡ Some core
  pub why : RefusedBy {T = Unit {0}} now.cores core (Err refused)

-- the first number in which the mark that was kept differs from the one that is found
abbrev pub Differs : Mark → Mark → TurnFault → Type 0
Differs mark here (NoCore turn) = ⊥
Differs mark here (Stopped turn) = ⊥
Differs mark here (Running core) = ⊥
Differs mark here (Writes turn kept found) = (kept ≡ mark.writes) × (found ≡ here.writes) × (mark.writes ≢ here.writes)
Differs mark here (Console turn kept found) =
    (mark.writes ≡ here.writes) × (kept ≡ mark.console) × (found ≡ here.console) × (mark.console ≢ here.console)

-- the first n turns are whole blocks, and the mark of the last of these is the first that differs
pub record MarkRefused (block : ℕ) (start : Board) (turns : List ℕ) (given : List Mark) (n : ℕ) (fault : TurnFault) (now : Board) : Type 0 where
  pub blocks : ℕ
  pub mark : Mark
  pub is_kept : slice_get given blocks ≡ Some mark
  pub ends : n ≡ block * (blocks + 1)
  pub within : n ≤ length turns
  pub reached : replay start (take n turns) ≡ Some now
  pub agree : AgreeWithin block start turns given (block * blocks)
  pub differs : Differs mark (mark_of now.world) fault

-- the cores up to a number have stopped
abbrev pub AreStoppedUpTo : ℕ → List Core → Type 0
AreStoppedUpTo to cores = (c : ℕ) (core : Core) → c < to → slice_get cores c ≡ Some core → ¬ (core.stop ≡ None)

-- all cores have
abbrev pub AreStopped : List Core → Type 0
AreStopped cores = (c : ℕ) (core : Core) → slice_get cores c ≡ Some core → ¬ (core.stop ≡ None)

-- the first core that has no stop
pub record IsFirstRunning (cores : List Core) (c : ℕ) : Type 0 where
  pub runs : RunsAt cores c
  pub before : (k : ℕ) (core : Core) → k < c → slice_get cores k ≡ Some core → ¬ (core.stop ≡ None)

-- what comes of following a schedule, whose blocks have so many turns, and the board that it leaves
abbrev pub Followed : ℕ → Board → List ℕ → List Mark → Result (Unit {0}) TurnFault → Board → Type 0
Followed block start turns given (Ok done) last = LeadsTo block start turns given (length turns) last × (all_stopped last.cores ≡ true)
Followed block start turns given (Err (NoCore turn)) last = TurnRefused block start turns given turn NoSuchCore last
Followed block start turns given (Err (Stopped turn)) last = TurnRefused block start turns given turn CoreStopped last
Followed block start turns given (Err (Running core)) last = LeadsTo block start turns given (length turns) last × IsFirstRunning last.cores core
Followed block start turns given (Err (Writes turn kept found)) last = MarkRefused block start turns given turn (Writes turn kept found) last
Followed block start turns given (Err (Console turn kept found)) last = MarkRefused block start turns given turn (Console turn kept found) last

-- the board that is left is one to which the schedule was followed so
pub record IsFollowed (block : ℕ) (start : Board) (turns : List ℕ) (given : List Mark) (result : Result (Unit {0}) TurnFault) (cores : List Core) (bus : BusState) : Type 0 where
  pub last : Board
  pub is : IsBoard cores bus last
  pub followed : Followed block start turns given result last

-- the first n turns were followed, and this is the board behind them
pub record IsLed (block : ℕ) (start : Board) (turns : List ℕ) (given : List Mark) (n : ℕ) (cores : List Core) (bus : BusState) : Type 0 where
  pub now : Board
  pub is : IsBoard cores bus now
  pub leads : LeadsTo block start turns given n now

-- what comes of one turn more
abbrev pub IsAdvanced : ℕ → Board → List ℕ → List Mark → ℕ → Result (Unit {0}) TurnFault → List Core → BusState → Type 0
IsAdvanced block start turns given n (Ok done) cores bus = IsLed block start turns given (n + 1) cores bus
IsAdvanced block start turns given n (Err fault) cores bus = IsFollowed block start turns given (Err fault) cores bus

-- the number of turns that the fault of a mark tells
abbrev pub TellsOf : ℕ → TurnFault → Type 0
TellsOf made (NoCore turn) = ⊥
TellsOf made (Stopped turn) = ⊥
TellsOf made (Running core) = ⊥
TellsOf made (Writes turn kept found) = turn ≡ made
TellsOf made (Console turn kept found) = turn ≡ made

pub record IsRefusedMark (block : ℕ) (given : List Mark) (made : ℕ) (fault : TurnFault) (here : Mark) : Type 0 where
  pub blocks : ℕ
  pub mark : Mark
  pub is_kept : slice_get given blocks ≡ Some mark
  pub ends : made ≡ block * (blocks + 1)
  pub told : TellsOf made fault
  pub differs : Differs mark here fault

-- what comes of the mark of a block that so many turns end, where one was kept
abbrev pub IsCompared : ℕ → List Mark → ℕ → Result (Unit {0}) TurnFault → Mark → Type 0
IsCompared block given made (Ok done) here = (k : ℕ) (mark : Mark) → slice_get given k ≡ Some mark → made ≡ block * (k + 1) → mark ≡ here
IsCompared block given made (Err fault) here = IsRefusedMark block given made fault here

-- The schedule leads from the board to one on which every core has stopped, and marks were kept of no block or of each, as
-- they are.
pub record IsFollowable (start : Board) (turns : List ℕ) (given : List Mark) : Type 0 where
  pub last : Board
  pub reached : replay start turns ≡ Some last
  pub agree : (given ≡ []) ⊎ (given ≡ marks start turns)
  pub stopped : all_stopped last.cores ≡ true
