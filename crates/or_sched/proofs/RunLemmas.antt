-- The ends of blocks and of their runs.
use Rattle.std.proofs.Common.{◌≡◌, ◌∙◌, ap, sym, ℕ, List, ◌++◌, ◌∷◌, [], ◌<◌, ◌≤◌, ◌*◌, length, length-append, take, drop, append_assoc, arith, ◌+◌}
use Rattle.std.proofs.lemmas.Grind.{common_steps}
use Rattle.std.specs.Prelude.{All}
use Rattle.or_sched.specs.declared.recording.Mark.{Mark}
use Rattle.or_sched.specs.Runs.{lines_text, runs_after, block_text}
use Rattle.or_sched.specs.Blocks.{blocks_text, mark_line}

-- behind the last run stands its line feed
pub last_run : (rest : List ℕ) (core count left room : ℕ) (before mid whole : List ℕ) → length rest < 1
    → mid ++ lines_text room [] ≡ before ++ lines_text left ((core, count) ∷ [])
    → before ++ lines_text left (runs_after core count rest) ≡ whole → mid ++ 10 ∷ [] ≡ whole
last_run [] core count left room before mid whole short run text = cc
last_run (turn ∷ rest) core count left room before mid whole short run text = absurd (omega arith)

-- behind a block and its mark stand the blocks that are left
pub next_block : (block : ℕ) (mark : Mark) (after marks : List Mark) (front later rest before mid now whole : List ℕ)
    → marks ≡ mark ∷ after → front ≡ take block rest → later ≡ drop block rest
    → mid ≡ before ++ block_text front → now ≡ mid ++ mark_line mark
    → before ++ blocks_text block marks rest ≡ whole → now ++ blocks_text block after later ≡ whole
next_block block mark after marks front later rest before mid now whole parts is_front is_later wrote marked text =
    let shape : blocks_text block marks rest ≡ block_text front ++ (mark_line mark ++ blocks_text block after later) = rw (parts, ← is_front, ← is_later) in
    let here : now ≡ (before ++ block_text front) ++ mark_line mark = marked ∙ ap (λ m. m ++ mark_line mark) wrote in
    let joined : now ++ blocks_text block after later ≡ before ++ blocks_text block marks rest =
    ap (λ m. m ++ blocks_text block after later) here ∙ append_assoc (before ++ block_text front) (mark_line mark) (blocks_text block after later)
    ∙ append_assoc before (block_text front) (mark_line mark ++ blocks_text block after later) ∙ ap (λ m. before ++ m) (sym shape) in
    joined ∙ text

-- the marks that are left have their blocks
pub fewer_blocks : (block : ℕ) (mark : Mark) (after marks : List Mark) (rest later : List ℕ) → marks ≡ mark ∷ after
    → length later + block ≡ length rest → block * length marks ≤ length rest → block * length after ≤ length later
fewer_blocks block mark after marks rest later parts cut room = grind (arith, ap length parts)

-- each turn behind a block is of a core
pub all_behind : (block : ℕ) (rest later : List ℕ) → later ≡ drop block rest → All (λ turn. turn < 8) rest → All (λ turn. turn < 8) later
all_behind block rest later is_later all = λ k d lt. grind (arith, common_steps, all (block + k) d)

-- the last run and its line feed end the text
pub last_run_ends : (rest : List ℕ) (core count left : ℕ) (before old whole : List ℕ) → length rest < 1
    → before ++ lines_text left (runs_after core count rest) ≡ old ++ whole
    → length before + length (lines_text left ((core, count) ∷ [])) ≡ length old + length whole
last_run_ends [] core count left before old whole short text =
    sym (length-append before (lines_text left ((core, count) ∷ []))) ∙ ap length text ∙ length-append old whole
last_run_ends (turn ∷ rest) core count left before old whole short text = absurd (omega arith)

-- the turns that are left end the text
pub last_block_ends : (block : ℕ) (marks : List Mark) (rest before old whole : List ℕ) → length marks ≡ 0
    → before ++ blocks_text block marks rest ≡ old ++ whole
    → length before + length (block_text rest) ≡ length old + length whole
last_block_ends block [] rest before old whole none text =
    sym (length-append before (block_text rest)) ∙ ap length text ∙ length-append old whole
last_block_ends block (mark ∷ marks) rest before old whole none text = absurd (omega arith)
