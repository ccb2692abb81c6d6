-- How far a trace has come, and how the command `trace` ends on files that were loaded.
use Rattle.std.specs.Prelude.{◌≡◌, ◌⊎◌, ℕ, List, [], ◌++◌}
use Rattle.or_elf.specs.Symbols.{SymbolTable}
use Rattle.or_host.specs.HostState.{HostState}
use Rattle.or_host.specs.Calls.{dash}
use Rattle.or_model.specs.Core.{Core}
use Rattle.or_model.specs.Turn.{Board}
use Rattle.or_bus.specs.State.{BusState}
use Rattle.or_replay.specs.Board.{IsBoard}
use Rattle.or_debug.specs.Standing.{CanFollow}
use Rattle.or_command.specs.Ends.{CommandEnd, done, unread, too_long, refused, unwritten, no_memory}
use Rattle.or_command.specs.Pieces.{Wrote, WroteUntilFault, WroteUntilLack, SoFar}
use Rattle.or_command_line.specs.declared.TraceOptions.{TraceOptions}
use Rattle.or_recorded.specs.Checked.{RunsShort}
use Rattle.or_recorded.specs.Command.{IsMade, FailsToRun}
use Rattle.or_recorded.specs.Files.{Names, Files}
use Rattle.or_recorded.specs.Trace.{traced, trace_fault, MakesTrace}

-- The text that was written, then the text that was made and not yet written, and then that of the turns which are left, from
-- the board as it stands, are the whole text.
pub record IsTraced (options : TraceOptions) (symbols : SymbolTable) (whole made : List ℕ) (number : ℕ) (turns : List ℕ) (cores : List Core) (bus : BusState)
    (old new : HostState) : Type 0 where
  pub now : Board
  pub is : IsBoard cores bus now
  pub followable : CanFollow now turns
  pub so_far : SoFar (made ++ traced options symbols now number turns) whole old new

-- the text of these files, and how it was written
pub record IsTextOf (options : TraceOptions) (files : Files) (Written : List ℕ → Type 0) : Type 0 where
  pub text : List ℕ
  pub made : IsMade trace_fault (MakesTrace options) files [] text
  pub written : Written text

-- how the command ends on files that were loaded
module _ (options : TraceOptions) (names : Names) (files : Files) where
  abbrev pub TraceEnds : CommandEnd → HostState → HostState → Type 0
  TraceEnds done old new = IsTextOf options files (λ text. Wrote text old new)
  TraceEnds (unwritten out) old new = (out ≡ dash) × IsTextOf options files (λ text. WroteUntilFault text old new)
  TraceEnds (refused check) old new = FailsToRun names files check × (new ≡ old)
  TraceEnds no_memory old new = (RunsShort files.image files.input files.recording × (new ≡ old)) ⊎ IsTextOf options files (λ text. WroteUntilLack text old new)
  TraceEnds (unread file) old new = ⊥
  TraceEnds (too_long file limit) old new = ⊥
