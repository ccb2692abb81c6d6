-- Where a text may end.
use Rattle.std.proofs.Common.{◌≡◌, ◌∙◌, ap, ℕ, zero, suc, List, ◌++◌, ◌∷◌, [], ◌+◌, ◌≤◌, ◌<◌, arith, refl, length, length-append, length-take, take, drop, inl, inr, true, false, decimal}
use Rattle.std.specs.Prelude.{codes}
use Rattle.or_sched.specs.declared.places.Limits.{Limits}
use Rattle.or_sched.specs.declared.places.Place.{Place}
use Rattle.or_sched.specs.declared.places.Place.TheVariants.{First, Run, Line, Word, Writes, Console, Done}
use Rattle.or_sched.specs.declared.recording.Mark.{Mark}
use Rattle.or_sched.specs.Runs.{lines_text, runs, block_text}
use Rattle.or_sched.specs.RunRests.{AtLine}
use Rattle.or_sched.specs.Blocks.{Item, mark_line, blocks_text}
use Rattle.or_sched.specs.BlockRests.{Later, items, Behind}
use Rattle.or_sched.specs.Places.{Completes, IsSound, ends_at}
use Rattle.or_sched.proofs.EndedLemmas.{mark_long}
use Rattle.or_sched.proofs.PlaceLemmas.{nothing_behind, is_nothing_behind}

lines_some : (room : ℕ) (all : List (ℕ × ℕ)) → 0 < length (lines_text room all)
lines_some room [] = omega arith
lines_some zero (run ∷ others) = omega arith
lines_some (suc room) (run ∷ others) = omega arith

-- where something must follow, the text isn't at its end
pub not_end : (limits : Limits) (place : Place) (decoded : List Item) → IsSound limits place → ends_at place ≡ false → Completes limits place [] decoded → ⊥
not_end limits (First block) decoded sound e t = let no : [] ≡ (97 + t.holds.next) ∷ t.holds.more = t.holds.letter in cc
not_end limits (Run begun) decoded sound e t =
    omega (
      arith,
      ap length t.holds.text,
      length-append t.holds.tail (lines_text begun.room t.holds.others ++ t.holds.after),
      length-append (lines_text begun.room t.holds.others) t.holds.after,
      lines_some begun.room t.holds.others,
    )
not_end limits (Line core block) decoded sound e t = let no : true ≡ false = e in cc
not_end limits (Word seen total) decoded sound e t =
    omega (
      arith,
      ap length t.2,
      length-append (take seen (codes "mark ")) [],
      length-take seen (codes "mark "),
      length-append (mark_line t.0) t.1,
      length-append (codes "mark ") (decimal t.0.writes ++ (32 ∷ (decimal t.0.console ++ 10 ∷ []))),
      sound.0,
    )
not_end limits (Writes number total) decoded sound e t = omega (arith, ap length t.2.text, length-append t.2.tail (32 ∷ (decimal t.0.console ++ 10 ∷ t.1)))
not_end limits (Console writes number total) decoded sound e t = omega (arith, ap length t.2.text, length-append t.2.tail (10 ∷ t.1))
not_end limits Done decoded sound e t = let no : true ≡ false = e in cc

-- where nothing need follow, it is
pub is_end : (limits : Limits) (place : Place) → IsSound limits place → ends_at place ≡ true → Completes limits place [] []
is_end limits (First block) sound e = let no : false ≡ true = e in cc
is_end limits (Run begun) sound e = let no : false ≡ true = e in cc
is_end limits (Line core block) sound e = record { all = []; later = []; parts = refl; holds = inl (refl, is_nothing_behind limits block.behind block.left sound.0) }
is_end limits (Word seen total) sound e = let no : false ≡ true = e in cc
is_end limits (Writes number total) sound e = let no : false ≡ true = e in cc
is_end limits (Console writes number total) sound e = let no : false ≡ true = e in cc
is_end limits Done sound e = (refl, refl)

-- and nothing more is decoded there
pub nothing_more : (limits : Limits) (place : Place) (decoded : List Item) → IsSound limits place → ends_at place ≡ true → Completes limits place [] decoded → decoded ≡ []
nothing_more limits (First block) decoded sound e t = let no : false ≡ true = e in cc
nothing_more limits (Run begun) decoded sound e t = let no : false ≡ true = e in cc
nothing_more limits (Line core block) decoded sound e t = t.parts ∙ none t.all t.later t.holds
  where
    none : (all : List (ℕ × ℕ)) (later : Later) → AtLine (Behind limits block.behind) limits.cores core block.left [] all later → items all later ≡ []
    none all later (inl e) = ap (λ k. items k later) e.0 ∙ ap (λ k. items [] k) (nothing_behind limits block.behind block.left [] later sound.0 e.1).1
    none all later (inr r) = let no : [] ≡ (97 + r.next) ∷ r.more = r.letter in cc
nothing_more limits (Word seen total) decoded sound e t = let no : false ≡ true = e in cc
nothing_more limits (Writes number total) decoded sound e t = let no : false ≡ true = e in cc
nothing_more limits (Console writes number total) decoded sound e t = let no : false ≡ true = e in cc
nothing_more limits Done decoded sound e t = t.1

-- some bytes stand behind a head
pub block_some : (turns : List ℕ) → 1 ≤ length turns → 1 ≤ length (block_text turns)
block_some [] some = absurd (omega arith)
block_some (turn ∷ turns) some = omega (arith, lines_some 16 (runs (turn ∷ turns)))

pub blocks_some : (marks : List Mark) (turns : List ℕ) → 1 ≤ length turns → 1 ≤ length (blocks_text 65536 marks turns)
blocks_some [] turns some = block_some turns some
blocks_some (mark ∷ marks) turns some =
    omega (
      arith,
      length-append (block_text (take 65536 turns)) (mark_line mark ++ blocks_text 65536 marks (drop 65536 turns)),
      length-append (mark_line mark) (blocks_text 65536 marks (drop 65536 turns)),
      mark_long mark,
    )
