-- A schedule makes at most one write and sends at most one byte in each of its turns, so its marks are small.
use Rattle.std.proofs.Common.{◌≡◌, ℕ, ◌+◌, ◌*◌, ◌≤◌, zero, suc, List, [], ◌∷◌, ◌++◌, Some, None, length, take, ap, sym, ◌∙◌, arith}
use Rattle.std.specs.Prelude.{Option, slice_get}
use Rattle.std.proofs.Math.Nat.{mul-suc}
use Rattle.std.proofs.lemmas.List.{length-take-le}
use Rattle.or_sched.specs.declared.recording.Mark.{Mark}
use Rattle.or_sched.specs.Schedule.{AreMarksAfter}
use Rattle.or_model.specs.Core.{Core}
use Rattle.or_model.specs.World.{World}
use Rattle.or_model.specs.Turn.{Board, board_turned, board_turned_by, running, and_then, replay}
use Rattle.or_model.proofs.Growth.{turn_grows}
use Rattle.or_replay.specs.Marks.{mark_after, block_marks}
use Rattle.or_replay.proofs.Replaying.{length-block_marks}
use Rattle.or_parts.specs.Devices.{console_of}

-- the world after so many turns
pub record GrownBy (n : ℕ) (old new : World) : Type 0 where
  pub writes : length new.writes ≤ length old.writes + n
  pub console : length (console_of new.devices) ≤ length (console_of old.devices) + n

abbrev BoardGrows : ℕ → Board → Option Board → Type 0
BoardGrows n board None = Unit {0}
BoardGrows n board (Some next) = GrownBy n board.world next.world

turned_grows_by : (board : Board) (c : ℕ) (core : Option Core) → BoardGrows 1 board (board_turned_by board c core)
turned_grows_by board c None = tt
turned_grows_by board c (Some core) = let grows = turn_grows core board.world in record { writes = grows.writes; console = grows.console }

turned_grows : (board : Board) (c : ℕ) → BoardGrows 1 board (board_turned board c)
unfolding board_turned
turned_grows board c = turned_grows_by board c (running (slice_get board.cores c))

more : (board middle : Board) (last : Option Board) (n : ℕ) → GrownBy 1 board.world middle.world → BoardGrows n middle last → BoardGrows (suc n) board last
more board middle None n one later = tt
more board middle (Some last) n one later = record { writes = omega (arith, one.writes, later.writes); console = omega (arith, one.console, later.console) }

then_grows : (board : Board) (first : Option Board) (next : Board → Option Board) (n : ℕ) → BoardGrows 1 board first
    → ((middle : Board) → BoardGrows n middle (next middle)) → BoardGrows (suc n) board (and_then first next)
then_grows board None next n one later = tt
then_grows board (Some middle) next n one later = more board middle (next middle) n one (later middle)

pub replay_grows : (board : Board) (turns : List ℕ) → BoardGrows (length turns) board (replay board turns)
replay_grows board [] = record { writes = omega arith; console = omega arith }
replay_grows board (c ∷ turns) = then_grows board (board_turned board c) (λ next. replay next turns) (length turns) (turned_grows board c) (λ next. replay_grows next turns)

abbrev MarkWithin : ℕ → Mark → Type 0
MarkWithin n mark = (mark.writes ≤ n) × (mark.console ≤ n)

mark_within : (start : Board) (last : Option Board) (n : ℕ) → length start.world.writes ≡ 0 → length (console_of start.world.devices) ≡ 0 → BoardGrows n start last → MarkWithin n (mark_after last)
mark_within start None n none silent grows = (omega arith, omega arith)
mark_within start (Some last) n none silent grows = (omega (arith, grows.writes, none), omega (arith, grows.console, silent))

-- one mark more behind others
marks_behind : (block before : ℕ) (marks : List Mark) (mark : Mark) → AreMarksAfter block before marks → MarkWithin (before + block * suc (length marks)) mark
    → AreMarksAfter block before (marks ++ mark ∷ [])
marks_behind block before [] mark all last = let e = mul-suc block 0 in (omega (arith, e, last.0), omega (arith, e, last.1), tt)
marks_behind block before (first ∷ marks) mark all last =
    let e = mul-suc block (suc (length marks)) in
    (all.0, all.1, marks_behind block (before + block) marks mark all.2 (omega (arith, e, last.0), omega (arith, e, last.1)))

-- the marks of a board's first turns are those that a recording can have
pub marks_fit : (block : ℕ) (start : Board) (turns : List ℕ) (n : ℕ) → length start.world.writes ≡ 0 → length (console_of start.world.devices) ≡ 0
    → block * n ≤ length turns → AreMarksAfter block 0 (block_marks block start turns n)
marks_fit block start turns zero none silent inside = tt
marks_fit block start turns (suc n) none silent inside =
    let fewer : block * n ≤ length turns = omega (arith, mul-suc block n) in
    let front = take (block * suc n) turns in
    let long : length front ≡ block * suc n = length-take-le (block * suc n) turns inside in
    let few : length (block_marks block start turns n) ≡ n = length-block_marks block start turns n in
    let within = mark_within start (replay start front) (length front) none silent (replay_grows start front) in
    let bound : length front ≡ block * suc (length (block_marks block start turns n)) = long ∙ ap (λ k. block * suc k) (sym few) in
    marks_behind block 0 (block_marks block start turns n) (mark_after (replay start front)) (marks_fit block start turns n none silent fewer)
    (omega (arith, bound, within.0), omega (arith, bound, within.1))
