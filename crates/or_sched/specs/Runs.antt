-- Turns as runs: neighbouring runs are of different cores.
use Rattle.std.specs.Prelude.{ℕ, zero, suc, ◌+◌, ◌==◌, List, [], ◌∷◌, ◌++◌, if◌then◌else◌, decimal, replicate, ◌≢◌}

-- the runs of these turns behind `count` turns of `core`, which the first run has too
abbrev pub runs_after : ℕ → ℕ → List ℕ → List (ℕ × ℕ)
runs_after core count [] = (core, count) ∷ []
runs_after core count (turn ∷ turns) =
    if turn == core then runs_after core (count + 1) turns else (core, count) ∷ runs_after turn 1 turns

-- the runs, as a core and a count
abbrev pub runs : List ℕ → List (ℕ × ℕ)
runs [] = []
runs (turn ∷ turns) = runs_after turn 1 turns

-- the turns of these runs
abbrev pub expand : List (ℕ × ℕ) → List ℕ
expand [] = []
expand (run ∷ others) = replicate run.1 run.0 ++ expand others

-- each run is of another core than the one before it, the first than `core`
abbrev pub DifferFrom : ℕ → List (ℕ × ℕ) → Type 0
DifferFrom core [] = Unit {0}
DifferFrom core (run ∷ others) = (run.0 ≢ core) × DifferFrom run.0 others

-- neighbouring runs are of different cores
abbrev pub NeighboursDiffer : List (ℕ × ℕ) → Type 0
NeighboursDiffer [] = Unit {0}
NeighboursDiffer (run ∷ others) = DifferFrom run.0 others

-- the count where it is 2 or more
abbrev pub count_text : ℕ → List ℕ
count_text count = if count == 1 then [] else decimal count

-- a letter, from `a` for core 0, and the count
abbrev pub run_text : ℕ × ℕ → List ℕ
run_text run = (97 + run.0) ∷ count_text run.1

-- runs, where `left` more have room in this line, which is ended behind them
abbrev pub lines_text : ℕ → List (ℕ × ℕ) → List ℕ
lines_text left [] = 10 ∷ []
lines_text zero (run ∷ others) = 10 ∷ run_text run ++ lines_text 15 others
lines_text (suc left) (run ∷ others) = run_text run ++ lines_text left others

-- the run lines of a block of turns, with 16 runs a line
abbrev pub block_text : List ℕ → List ℕ
block_text [] = []
block_text (turn ∷ turns) = lines_text 16 (runs (turn ∷ turns))
