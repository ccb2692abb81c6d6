-- What the command `trace` writes of a recorded run: the text of its turns in a range, of one core or of all.
use Rattle.std.specs.Prelude.{◌≡◌, ◌⊎◌, ℕ, ◌+◌, nat_le, ◌==◌, Bool, true, ◌&&◌, if◌then◌else◌, List, [], ◌∷◌, ◌++◌, Option, Some, None}
use Rattle.or_elf.specs.Symbols.{SymbolTable}
use Rattle.or_elf.specs.Labels.{sound_symbols}
use Rattle.or_trace.specs.Text.{turn_text}
use Rattle.or_host.specs.HostState.{HostState}
use Rattle.or_model.specs.Turn.{Board, board_turned}
use Rattle.or_replay.specs.Steps.{board_steps}
use Rattle.or_command.specs.Loads.{AreRead}
use Rattle.or_command.specs.Pieces.{WroteUntilLack}
use Rattle.or_command_line.specs.declared.TraceOptions.{TraceOptions}
use Rattle.or_recorded.specs.declared.refused.OwnFault.{OwnFault}
use Rattle.or_recorded.specs.Command.{Run, start_of, IsMade, CommandLacks}
use Rattle.or_recorded.specs.Files.{Names, loads, files_in}

abbrev pub is_of_core : Option ℕ → ℕ → Bool
is_of_core None core = true
is_of_core (Some chosen) core = core == chosen

-- whether a turn is in the range, and of the core that was chosen, if one was
abbrev pub is_wanted : TraceOptions → ℕ → ℕ → Bool
is_wanted options number core = nat_le options.from number && (nat_le number options.to && is_of_core options.core core)

-- the text of a turn of core c, which has this number, where it is wanted
unfoldable pub wanted_text : TraceOptions → SymbolTable → Board → ℕ → ℕ → List ℕ
wanted_text options symbols now number c = if is_wanted options number c then turn_text symbols number c (board_steps now c) else []

abbrev pub text_where_made : Option Board → (Board → List ℕ) → List ℕ
text_where_made None text = []
text_where_made (Some next) text = text next

-- THE TEXT OF A SCHEDULE's turns from a board, of which the first has this number
abbrev pub traced : TraceOptions → SymbolTable → Board → ℕ → List ℕ → List ℕ
traced options symbols now number [] = []
traced options symbols now number (c ∷ later) =
    text_where_made (board_turned now c) (λ next. wanted_text options symbols now number c ++ traced options symbols next (number + 1) later)

-- the text of a run; turns are counted from 1
abbrev pub trace_text : TraceOptions → Run → List ℕ
trace_text options run = traced options (sound_symbols run.files.image) (start_of run) 1 run.turns

-- it has no check of its own
abbrev pub trace_fault : Run → Option OwnFault
trace_fault run = None

abbrev pub MakesTrace : TraceOptions → Run → List ℕ → List ℕ → Type 0
MakesTrace options run report console = console ≡ trace_text options run

-- memory ran out when all checks had passed and a prefix of the text was written
pub record IsTracedInPart (options : TraceOptions) (names : Names) (old new : HostState) : Type 0 where
  pub files : List (List ℕ)
  pub read : AreRead (loads names) files new
  pub text : List ℕ
  pub made : IsMade trace_fault (MakesTrace options) (files_in names files) [] text
  pub wrote : WroteUntilLack text old new

-- what is left where memory ran out: all as it was, or a prefix of the text was written
abbrev pub TraceLacks : TraceOptions → Names → HostState → HostState → Type 0
TraceLacks options names old new = CommandLacks names old new ⊎ IsTracedInPart options names old new
