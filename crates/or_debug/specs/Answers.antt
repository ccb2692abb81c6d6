-- What a session answers, and what it leaves.
use Rattle.std.specs.Prelude.{◌≡◌, ℕ, ◌++◌, List, Some, None, Result, Ok, Err}
use Rattle.or_words.specs.declared.Config.{Config}
use Rattle.or_script.specs.declared.command.Command.{Command}
use Rattle.or_script.specs.declared.command.LineFault.{LineFault}
use Rattle.or_script.specs.declared.fault.ScriptFault.{ScriptFault}
use Rattle.or_script.specs.declared.fault.ScriptFault.TheVariants.{BadCommand, OutOfRange, NoMemory}
use Rattle.or_script.specs.Script.{fault_of}
use Rattle.or_model.specs.Core.{Core}
use Rattle.or_model.specs.Turn.{Board}
use Rattle.or_bus.specs.State.{BusState}
use Rattle.or_debug.specs.declared.debugger.Debugger.{Debugger}
use Rattle.or_debug.specs.Session.{State, first_state, state_after, answer, session_from, state_behind, session_text, turns_followed}
use Rattle.or_debug.specs.Standing.{IsAfter, Reaches, Stands, state_of}

-- the fault of the script exactly where it has one; memory may run out where it has none
abbrev pub AnswersScript : {X : Type 0} → Result X ScriptFault → Result (List Command) (LineFault × ℕ) → Type 0
AnswersScript (Ok done) script = fault_of script ≡ None
AnswersScript (Err (BadCommand line)) script = fault_of script ≡ Some (BadCommand line)
AnswersScript (Err (OutOfRange line)) script = fault_of script ≡ Some (OutOfRange line)
AnswersScript (Err NoMemory) script = fault_of script ≡ None

-- the whole text was appended, and the board is the one after the turns that were followed
pub record IsWritten (config : Config) (start : Board) (turns script before later : List ℕ) (cores : List Core) (bus : BusState) : Type 0 where
  pub text : later ≡ before ++ session_text config start turns script
  pub board : IsAfter start turns (turns_followed config start turns script) cores bus

-- a prefix of the text was appended, and the board is one of the schedule's
pub record IsPart (config : Config) (start : Board) (turns script before later : List ℕ) (cores : List Core) (bus : BusState) : Type 0 where
  pub front : List ℕ
  pub rest : List ℕ
  pub parts : session_text config start turns script ≡ front ++ rest
  pub text : later ≡ before ++ front
  pub followed : ℕ
  pub board : IsAfter start turns followed cores bus

-- a command was answered behind other text
pub record IsAdded (start : Board) (turns : List ℕ) (old : Debugger) (command : Command) (before later : List ℕ) (new : Debugger) (cores : List Core) (bus : BusState) : Type 0 where
  pub stands : Stands start turns new cores bus
  pub state : state_of new ≡ state_after start turns (state_of old) command
  pub text : later ≡ before ++ answer start turns (state_of old) command

-- all commands were answered
pub record AreAnswered (start : Board) (turns : List ℕ) (first : State) (commands : List Command) (before later : List ℕ) (debugger : Debugger) (cores : List Core) (bus : BusState) : Type 0 where
  pub stands : Stands start turns debugger cores bus
  pub text : later ≡ before ++ session_from start turns first commands
  pub state : state_of debugger ≡ state_behind start turns first commands

-- some of them
pub record SomeAnswered (start : Board) (turns : List ℕ) (first : State) (commands : List Command) (before later : List ℕ) (debugger : Debugger) (cores : List Core) (bus : BusState) : Type 0 where
  pub front : List ℕ
  pub rest : List ℕ
  pub parts : session_from start turns first commands ≡ front ++ rest
  pub text : later ≡ before ++ front
  pub reaches : Reaches start turns debugger.turn debugger.last cores bus

-- a session's commands were answered
pub record IsRun (start : Board) (turns : List ℕ) (commands : List Command) (before later : List ℕ) (cores : List Core) (bus : BusState) : Type 0 where
  pub text : later ≡ before ++ session_from start turns first_state commands
  pub board : IsAfter start turns (state_behind start turns first_state commands).turn cores bus

-- or some of them
pub record IsRunInPart (start : Board) (turns : List ℕ) (commands : List Command) (before later : List ℕ) (cores : List Core) (bus : BusState) : Type 0 where
  pub front : List ℕ
  pub rest : List ℕ
  pub parts : session_from start turns first_state commands ≡ front ++ rest
  pub text : later ≡ before ++ front
  pub followed : ℕ
  pub board : IsAfter start turns followed cores bus
