-- A trace, turn by turn.
use Rattle.std.proofs.Common.{◌≡◌, ◌∙◌, refl, sym, ap, subst, ℕ, ◌+◌, List, [], ◌∷◌, ◌++◌, append_assoc, Option, Some, None, Result, Ok, Err}
use Rattle.std.specs.Prelude.{OnOk, MatchResult}
use Rattle.or_elf.specs.Symbols.{SymbolTable}
use Rattle.or_host.specs.HostState.{HostState}
use Rattle.or_words.specs.declared.NoMemory.{NoMemory}
use Rattle.or_model.specs.Core.{Core}
use Rattle.or_model.specs.Turn.{Board, board_turned, and_then, replay}
use Rattle.or_bus.specs.State.{BusState}
use Rattle.or_replay.specs.Board.{IsBoard}
use Rattle.or_command.specs.declared.pieces.PieceStop.{PieceStop}
use Rattle.or_command.specs.Pieces.{Wrote, StopsWriting, SoFar}
use Rattle.or_command.proofs.PiecesLemmas.{begins, goes_on, lacks_rest}
use Rattle.or_debug.specs.Standing.{CanFollow}
use Rattle.or_command_line.specs.declared.TraceOptions.{TraceOptions}
use Rattle.or_recorded.specs.Trace.{wanted_text, text_where_made, traced}
use Rattle.or_recorded.specs.Tracing.{IsTraced}

next_by : (first : Option Board) (later : List ℕ) (last : Board) → and_then first (λ next. replay next later) ≡ Some last
    → (next : Board) × (first ≡ Some next) × (replay next later ≡ Some last)
next_by None later last is = absurd (let b : ⊥ = cc in b)
next_by (Some next) later last is = (next, refl, is)

-- a schedule that can be followed goes on with its next board
pub next_board : (now : Board) (c : ℕ) (later : List ℕ) (last : Board) → replay now (c ∷ later) ≡ Some last
    → (next : Board) × (board_turned now c ≡ Some next) × (replay next later ≡ Some last)
next_board now c later last is = next_by (board_turned now c) later last is

-- the text of the turns that are left begins with that of the next turn
pub traced_on : (options : TraceOptions) (symbols : SymbolTable) (now next : Board) (number c : ℕ) (later : List ℕ) → board_turned now c ≡ Some next
    → traced options symbols now number (c ∷ later) ≡ wanted_text options symbols now number c ++ traced options symbols next (number + 1) later
traced_on options symbols now next number c later is =
    ap (λ (b : Option Board). text_where_made b (λ next. wanted_text options symbols now number c ++ traced options symbols next (number + 1) later)) is

-- a turn more is made, and stands behind the text that was made
pub turn_traced : (options : TraceOptions) (symbols : SymbolTable) (whole made new_made : List ℕ) (number c : ℕ) (later : List ℕ) (cores new_cores : List Core) (bus new_bus : BusState)
    (a b : HostState) (result : Result (Unit {0}) NoMemory) → IsTraced options symbols whole made number (c ∷ later) cores bus a b
    → ((now next : Board) → IsBoard cores bus now → board_turned now c ≡ Some next → IsBoard new_cores new_bus next × OnOk result (new_made ≡ made ++ wanted_text options symbols now number c))
    → OnOk result (IsTraced options symbols whole new_made (number + 1) later new_cores new_bus a b)
turn_traced options symbols whole made new_made number c later cores new_cores bus new_bus a b (Ok done) is made_on =
    let on = next_board is.now c later is.followable.0 is.followable.1 in
    let told = made_on is.now on.0 is.is on.1 in
    let rest = traced options symbols on.0 (number + 1) later in
    let text : made ++ traced options symbols is.now number (c ∷ later) ≡ new_made ++ rest =
    ap (λ (t : List ℕ). made ++ t) (traced_on options symbols is.now on.0 number c later on.1)
    ∙ sym (append_assoc made (wanted_text options symbols is.now number c) rest) ∙ ap (λ (t : List ℕ). t ++ rest) (sym told.1) in
    record {
      now = on.0;
      is = told.0;
      followable = (is.followable.0, on.2);
      so_far = subst (λ (t : List ℕ). SoFar t whole a b) text is.so_far;
    }
turn_traced options symbols whole made new_made number c later cores new_cores bus new_bus a b (Err none) is made_on = tt

-- the text that was made is written
pub made_is_written : (made rest whole : List ℕ) (a b c : HostState) → SoFar (made ++ rest) whole a b → Wrote made b c → SoFar ([] ++ rest) whole a c
made_is_written made rest whole a b c so_far wrote = goes_on made rest whole a b c so_far wrote

-- or not yet
pub written_on : (options : TraceOptions) (symbols : SymbolTable) (whole made new_made : List ℕ) (number : ℕ) (turns : List ℕ) (cores : List Core) (bus : BusState) (a b c : HostState)
    (result : Result (Unit {0}) PieceStop) → IsTraced options symbols whole made number turns cores bus a b
    → ((rest : List ℕ) → SoFar (made ++ rest) whole a b → MatchResult result (λ _. SoFar (new_made ++ rest) whole a c) (λ stop. StopsWriting stop whole a c))
    → MatchResult result (λ _. IsTraced options symbols whole new_made number turns cores bus a c) (λ stop. StopsWriting stop whole a c)
written_on options symbols whole made new_made number turns cores bus a b c (Ok done) is on =
    record { now = is.now; is = is.is; followable = is.followable; so_far = on (traced options symbols is.now number turns) is.so_far }
written_on options symbols whole made new_made number turns cores bus a b c (Err stop) is on = on (traced options symbols is.now number turns) is.so_far

-- before the first turn
pub trace_begins : (options : TraceOptions) (symbols : SymbolTable) (first : Board) (made turns : List ℕ) (cores : List Core) (bus : BusState) (a : HostState) → made ≡ []
    → IsBoard cores bus first → CanFollow first turns → IsTraced options symbols (traced options symbols first 1 turns) made 1 turns cores bus a a
trace_begins options symbols first made turns cores bus a none is followable = record {
  now = first;
  is = is;
  followable = followable;
  so_far = subst (λ (t : List ℕ). SoFar (t ++ traced options symbols first 1 turns) (traced options symbols first 1 turns) a a) (sym none) (begins (traced options symbols first 1 turns) a);
}

-- behind the last
pub trace_ends : (options : TraceOptions) (symbols : SymbolTable) (whole made : List ℕ) (number : ℕ) (turns : List ℕ) (cores : List Core) (bus : BusState) (a b : HostState)
    → turns ≡ [] → IsTraced options symbols whole made number turns cores bus a b → SoFar (made ++ []) whole a b
trace_ends options symbols whole made number turns cores bus a b none is =
    subst (λ (t : List ℕ). SoFar (made ++ traced options symbols is.now number t) whole a b) none is.so_far

-- where memory runs out, a prefix was written
pub no_room : (options : TraceOptions) (symbols : SymbolTable) (whole made : List ℕ) (number : ℕ) (turns : List ℕ) (cores : List Core) (bus : BusState) (a b : HostState)
    → IsTraced options symbols whole made number turns cores bus a b → StopsWriting PieceStop.NoMemory whole a b
no_room options symbols whole made number turns cores bus a b is = lacks_rest (made ++ traced options symbols is.now number turns) whole a b is.so_far
