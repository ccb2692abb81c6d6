-- The text behind the head, by its turns and marks.
use Rattle.std.specs.Prelude.{◌≡◌, ◌≢◌, ℕ, ◌+◌, ◌*◌, ◌≤◌, ◌<◌, List, [], length, All}
use Rattle.or_sched.specs.declared.recording.Mark.{Mark}
use Rattle.or_sched.specs.Runs.{block_text}
use Rattle.or_sched.specs.Blocks.{blocks_text}
use Rattle.or_sched.specs.Schedule.{AreMarksAfter}

-- version 1: run lines alone
pub record IsBody1 (cores limit : ℕ) (bytes turns : List ℕ) : Type 0 where
  pub text : bytes ≡ block_text turns
  pub some : turns ≢ []
  pub few : length turns ≤ limit
  pub are : All (λ turn. turn < cores) turns

-- version 2: with a mark after each whole block
pub record IsBody2 (cores limit block : ℕ) (bytes turns : List ℕ) (marks : List Mark) : Type 0 where
  pub text : bytes ≡ blocks_text block marks turns
  pub some : turns ≢ []
  pub few : length turns ≤ limit
  pub are : All (λ turn. turn < cores) turns
  -- as many marks as there are whole blocks
  pub whole : block * length marks ≤ length turns
  pub part : length turns < block * length marks + block
  pub numbers : AreMarksAfter block 0 marks
