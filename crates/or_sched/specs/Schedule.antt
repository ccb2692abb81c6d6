-- What a recording can tell of.
use Rattle.std.specs.Prelude.{◌≡◌, ◌≤◌, ◌<◌, ◌*◌, ◌/◌, ◌+◌, ℕ, List, [], ◌∷◌, length, All}
use Rattle.or_words.specs.declared.Config.{Config}
use Rattle.or_words.specs.declared.limits.TheConstants.{BLOCK}
use Rattle.or_sched.specs.declared.recording.Mark.{Mark}

-- turns that a run with these settings can make: the numbers of their cores
pub record IsSchedule (config : Config) (turns : List ℕ) : Type 0 where
  pub some_turn : 1 ≤ length turns
  pub few_turns : length turns ≤ config.cores * config.budget
  pub cores : All (λ turn. turn < config.cores) turns

-- each mark counts at most the turns before it: `before` and its block's
abbrev pub AreMarksAfter : ℕ → ℕ → List Mark → Type 0
AreMarksAfter block before [] = Unit {0}
AreMarksAfter block before (mark ∷ marks) =
    (mark.writes ≤ before + block) × (mark.console ≤ before + block) × AreMarksAfter block (before + block) marks

-- a mark for each whole block of turns
pub record AreMarks (turns : List ℕ) (marks : List Mark) : Type 0 where
  pub whole_blocks : length marks ≡ length turns / BLOCK
  pub numbers : AreMarksAfter BLOCK 0 marks
