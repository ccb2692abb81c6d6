-- What may stand behind a place in the run lines, and of which runs it tells: for each place the texts that complete it.
use Rattle.std.specs.Prelude.{◌≡◌, ◌≢◌, ℕ, zero, suc, ◌+◌, ◌-◌, ◌≤◌, ◌<◌, List, [], ◌∷◌, ◌++◌, decimal, ◌⊎◌}
use Rattle.or_sched.specs.Runs.{count_text, lines_text}

-- the digits of a number, none for 0
abbrev pub number_text : ℕ → List ℕ
number_text zero = []
number_text (suc n) = decimal (suc n)

-- these runs may follow a run of the core, with this many turns left
abbrev pub Follow : ℕ → ℕ → ℕ → List (ℕ × ℕ) → Type 0
Follow cores core left [] = Unit {0}
Follow cores core left (run ∷ others) =
    (run.0 < cores) × (run.0 ≢ core) × (1 ≤ run.1) × (run.1 ≤ left) × Follow cores run.0 (left - run.1) others

-- the turns that are left behind runs
abbrev pub left_after : ℕ → List (ℕ × ℕ) → ℕ
left_after left [] = left
left_after left (run ∷ others) = left_after (left - run.1) others

-- Behind a run's letter and the digits of `number`, with room for `room` runs behind it in its line and `left` turns
-- left before it: `rest` ends the run and its block, whose runs are `all` with it. Behind the block `After` holds,
-- of the turns that are left, of the text and of what that text tells.
pub record InRun {R : Type 0} (After : ℕ → List ℕ → R → Type 0) (cores core number room left : ℕ) (rest : List ℕ) (all : List (ℕ × ℕ)) (later : R) : Type 0 where
  pub count : ℕ
  pub others : List (ℕ × ℕ)
  pub tail : List ℕ
  pub after : List ℕ
  pub parts : all ≡ (core, count) ∷ others
  pub digits : number_text number ++ tail ≡ count_text count
  pub text : rest ≡ tail ++ (lines_text room others ++ after)
  pub some : 1 ≤ count
  pub fits : count ≤ left
  pub follow : Follow cores core (left - count) others
  pub behind : After (left_after (left - count) others) after later

-- Where a letter must stand, with room for `room` runs behind this one: `rest` has the letter of a core that isn't `core`.
pub record Opens {R : Type 0} (After : ℕ → List ℕ → R → Type 0) (cores core room left : ℕ) (rest : List ℕ) (all : List (ℕ × ℕ)) (later : R) : Type 0 where
  pub next : ℕ
  pub more : List ℕ
  pub letter : rest ≡ (97 + next) ∷ more
  pub below : next < cores
  pub differs : next ≢ core
  pub run : InRun After cores next 0 room left more all later

-- Behind a line feed that ended a full line: the block is at its end, or a letter comes.
abbrev pub AtLine : {R : Type 0} → (ℕ → List ℕ → R → Type 0) → ℕ → ℕ → ℕ → List ℕ → List (ℕ × ℕ) → R → Type 0
AtLine After cores core left rest all later = ((all ≡ []) × After left rest later) ⊎ Opens After cores core 15 left rest all later

-- Behind a line feed that ended a line with room: the block is at its end.
abbrev pub AtEnd : {R : Type 0} → (ℕ → List ℕ → R → Type 0) → ℕ → List ℕ → List (ℕ × ℕ) → R → Type 0
AtEnd After left rest all later = (all ≡ []) × After left rest later
