-- The turns of a recording, in blocks with their marks.
use Rattle.std.specs.Prelude.{ℕ, List, [], ◌∷◌, ◌++◌, take, drop, map, codes, decimal, replicate, ◌⊎◌}
use Rattle.std.proofs.Common.{inl, inr}
use Rattle.or_sched.specs.declared.recording.Mark.{Mark}
use Rattle.or_sched.specs.Runs.{block_text, runs}

-- the line of a mark
abbrev pub mark_line : Mark → List ℕ
mark_line mark = codes "mark " ++ (decimal mark.writes ++ (codes " " ++ (decimal mark.console ++ codes "\n")))

-- a block of this many turns before each mark, and the turns that are left
abbrev pub blocks_text : ℕ → List Mark → List ℕ → List ℕ
blocks_text block [] turns = block_text turns
blocks_text block (mark ∷ marks) turns = block_text (take block turns) ++ (mark_line mark ++ blocks_text block marks (drop block turns))

-- a run, as a core and a count, or a mark
abbrev pub Item : Type 0
Item = (ℕ × ℕ) ⊎ Mark

abbrev pub run_item : ℕ × ℕ → Item
run_item run = inl run

-- the runs and the marks, in the order of the text
abbrev pub blocks_items : ℕ → List Mark → List ℕ → List Item
blocks_items block [] turns = map run_item (runs turns)
blocks_items block (mark ∷ marks) turns = map run_item (runs (take block turns)) ++ inr mark ∷ blocks_items block marks (drop block turns)

-- the turns of the runs among these
abbrev pub turns_of : List Item → List ℕ
turns_of [] = []
turns_of (inl run ∷ others) = replicate run.1 run.0 ++ turns_of others
turns_of (inr mark ∷ others) = turns_of others

-- and the marks
abbrev pub marks_of : List Item → List Mark
marks_of [] = []
marks_of (inl run ∷ others) = marks_of others
marks_of (inr mark ∷ others) = mark ∷ marks_of others
