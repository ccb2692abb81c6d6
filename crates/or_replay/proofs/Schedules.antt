-- A schedule from the start that stops every core, and its marks, are such as a recording can have.
use Rattle.std.proofs.Common.{◌≡◌, ℕ, ◌*◌, ◌/◌, ◌≤◌, zero, suc, List, [], ◌∷◌, ◌++◌, Some, None, length, refl, ap, sym, ◌∙◌, arith, true, false, Bool, cond, ◌&&◌}
use Rattle.std.specs.Prelude.{Option, is_none}
use Rattle.or_model.specs.declared.Stop.{Stop}
use Rattle.or_words.specs.declared.Config.{Config}
use Rattle.or_words.specs.Settings.{Fits}
use Rattle.or_sched.specs.Schedule.{AreMarks}
use Rattle.or_model.specs.Core.{Core, reset_core}
use Rattle.or_model.specs.World.{new_world}
use Rattle.or_parts.specs.Uart.{reset_uart}
use Rattle.or_parts.specs.Devices.{reset_devices}
use Rattle.or_model.specs.Turn.{Board, replay, reset_cores}
use Rattle.or_replay.specs.Start.{start}
use Rattle.or_replay.specs.Board.{all_stopped}
use Rattle.or_replay.specs.Marks.{marks}
use Rattle.or_replay.proofs.Replaying.{length-block_marks}
use Rattle.or_replay.proofs.Bounds.{marks_fit}

-- the marks of any schedule from the start
pub start_marks : (config : Config) (image input turns : List ℕ) → AreMarks turns (marks (start config image input) turns)
unfolding marks start new_world reset_devices reset_uart
start_marks config image input turns =
    let inside : 65536 * (length turns / 65536) ≤ length turns = omega arith in
    record {
      whole_blocks = length-block_marks 65536 (start config image input) turns (length turns / 65536);
      numbers = marks_fit 65536 (start config image input) turns (length turns / 65536) refl refl inside;
    }

with_false : (b : Bool) → (b && false) ≡ false
with_false true = refl
with_false false = refl

last_runs : (cores : List Core) (core : Core) → core.stop ≡ None → all_stopped (cores ++ core ∷ []) ≡ false
last_runs [] core runs = ap (λ (stop : Option Stop). (cond (is_none stop) false true) && true) runs
last_runs (first ∷ cores) core runs = ap (λ b. (cond (is_none first.stop) false true) && b) (last_runs cores core runs) ∙ with_false (cond (is_none first.stop) false true)

-- a core at reset runs
some_run : (config : Config) (count : ℕ) → all_stopped (reset_cores config (suc count)) ≡ false
unfolding reset_cores reset_core
some_run config count = last_runs (reset_cores config count) (reset_core config count) refl

some_run_of : (config : Config) (count : ℕ) → 1 ≤ count → all_stopped (reset_cores config count) ≡ false
some_run_of config zero some = absurd (omega arith)
some_run_of config (suc count) some = some_run config count

-- a run makes some turn
pub some_turn : (config : Config) (image input turns : List ℕ) (last : Board) → Fits config → replay (start config image input) turns ≡ Some last
    → all_stopped last.cores ≡ true → 1 ≤ length turns
unfolding start
some_turn config image input [] last fits reached stopped =
    let same : last.cores ≡ reset_cores config config.cores = let at : last ≡ start config image input = cc in ap (λ (b : Board). b.cores) at in
    let runs = some_run_of config config.cores fits.some_core in
    absurd (let b : true ≡ false = sym stopped ∙ ap all_stopped same ∙ runs in let c : ⊥ = cc in c)
some_turn config image input (turn ∷ turns) last fits reached stopped = omega arith
