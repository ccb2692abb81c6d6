-- The text of a recording.
use Rattle.std.specs.Prelude.{ℕ, List, ◌++◌}
use Rattle.or_words.specs.declared.limits.TheConstants.{BLOCK}
use Rattle.or_sched.specs.declared.recording.Head.{Head}
use Rattle.or_sched.specs.declared.recording.Mark.{Mark}
use Rattle.or_sched.specs.HeadText.{head_text1, head_text2}
use Rattle.or_sched.specs.Runs.{block_text}
use Rattle.or_sched.specs.Blocks.{blocks_text}

-- version 1: the turns are one block, and there are no marks
unfoldable pub rec_text1 : Head → List ℕ → List ℕ
rec_text1 head turns = head_text1 head ++ block_text turns

-- version 2: behind each whole block of turns stands its mark
unfoldable pub rec_text2 : Head → List ℕ → List Mark → List ℕ
rec_text2 head turns marks = head_text2 head ++ blocks_text BLOCK marks turns
