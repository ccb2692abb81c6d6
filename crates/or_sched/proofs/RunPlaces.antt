-- A place between two runs of a line.
use Rattle.std.specs.Prelude.{◌≡◌, ℕ, List, ◌++◌}
use Rattle.or_sched.specs.Runs.{lines_text}
use Rattle.or_sched.specs.RunRests.{Follow, left_after}

-- Behind the text of a run, with room for `room` runs behind it in its line: `rest` goes on with the runs `all`.
pub record AtRun {R : Type 0} (After : ℕ → List ℕ → R → Type 0) (cores core room left : ℕ) (rest : List ℕ) (all : List (ℕ × ℕ)) (later : R) : Type 0 where
  pub after : List ℕ
  pub text : rest ≡ lines_text room all ++ after
  pub follow : Follow cores core left all
  pub behind : After (left_after left all) after later
