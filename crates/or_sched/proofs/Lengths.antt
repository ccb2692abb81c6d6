-- How long a text can be.
use Rattle.std.proofs.Common.{◌≡◌, ap, ℕ, zero, suc, List, ◌++◌, ◌∷◌, [], ◌+◌, ◌-◌, ◌*◌, ◌^◌, ◌≤◌, ◌<◌, min, arith, length, length-append, inl, inr, ◌⊎◌, Option, Some, None, decimal}
use Rattle.std.proofs.lemmas.Bool.{cases_lt, cases_eq}
use Rattle.std.proofs.lemmas.Fmt.{length-decimal-le}
use Rattle.or_sched.specs.declared.places.Limits.{Limits}
use Rattle.or_sched.specs.declared.places.Block.{Block}
use Rattle.or_sched.specs.declared.places.Place.TheVariants.{First}
use Rattle.or_sched.specs.Runs.{count_text, run_text, lines_text}
use Rattle.or_sched.specs.RunRests.{Follow, left_after}
use Rattle.or_sched.proofs.RunPlaces.{AtRun}
use Rattle.or_sched.specs.Blocks.{Item, mark_line}
use Rattle.or_sched.specs.BlockRests.{Later, Behind, behind_of}
use Rattle.or_sched.specs.Places.{Completes, AreLimits, IsSound, IsNumberBelow}
use Rattle.or_sched.proofs.Steps.{letter_back, count_many}
use Rattle.or_sched.proofs.EndedLemmas.{mark_long}
use Rattle.or_sched.proofs.PlaceLemmas.{behind_whole, behind_part}

pub decimal_length : (n : ℕ) → n < 2 ^ 32 → length (decimal n) ≤ 20
decimal_length n small = length-decimal-le 20 n (omega arith) (omega arith) (omega arith)

count_length : (n : ℕ) → n < 2 ^ 32 → length (count_text n) ≤ 20
count_length n small = go (cases_eq n 1)
  where
    go : (n ≡ 1) ⊎ (n ≡ 1 → ⊥) → length (count_text n) ≤ 20
    go (inl one) = omega (arith, ap (λ k. length (count_text k)) one)
    go (inr many) = omega (arith, ap length (count_many n many), decimal_length n small)

-- at most 22 bytes for each turn
lines_length : (all : List (ℕ × ℕ)) (cores core left room : ℕ) → left < 2 ^ 32 → Follow cores core left all
    → length (lines_text room all) + 22 * left_after left all ≤ 22 * left + 1
lines_length [] cores core left room small follow = omega arith
lines_length (run ∷ others) cores core left zero small follow =
    omega (
      arith,
      lines_length others cores run.0 (left - run.1) 15 (omega arith) follow.4,
      follow.2,
      follow.3,
      count_length run.1 (omega (arith, follow.3)),
      length-append (10 ∷ run_text run) (lines_text 15 others),
    )
lines_length (run ∷ others) cores core left (suc room) small follow =
    omega (
      arith,
      lines_length others cores run.0 (left - run.1) room (omega arith) follow.4,
      follow.2,
      follow.3,
      count_length run.1 (omega (arith, follow.3)),
      length-append (run_text run) (lines_text room others),
    )

-- and 100 with the marks
abbrev most_behind : Option ℕ → ℕ
most_behind None = 0
most_behind (Some total) = 100 * total + 100

behind_length : (later : Later) (limits : Limits) (behind : Option ℕ) (left : ℕ) (text : List ℕ) → AreLimits limits → most_behind behind ≤ 100 * limits.turns + 100
    → Behind limits behind left text later → length text ≤ most_behind behind
behind_length later limits None left text are small b = omega (arith, ap length b.0)
behind_length later limits (Some total) (suc left) text are small b = omega (arith, ap length b.0)
behind_length [] limits (Some total) zero text are small b = absurd b
behind_length ((mark, []) ∷ later) limits (Some total) zero text are small b =
    omega (arith, ap length b.0, mark_long mark, are.turns, decimal_length mark.writes (omega (arith, b.1, are.turns)), decimal_length mark.console (omega (arith, b.2, are.turns)))
behind_length ((mark, run ∷ others) ∷ later) limits (Some total) zero text are small b =
    sum (cases_lt total limits.block) (λ fits. behind_length later limits (behind_of limits total) (left_after (min total limits.block) (run ∷ others)) b.0 are fits b.5)
  where
    lines : length (lines_text 16 (run ∷ others)) ≤ 22 * min total limits.block + 1
    lines = omega (arith, lines_length (run ∷ others) limits.cores limits.cores (min total limits.block) 16 (omega (arith, are.turns)) b.4)

    front : length text ≤ 48 + 22 * min total limits.block + length b.0
    front = omega (
      arith,
      ap length b.1,
      mark_long mark,
      length-append (mark_line mark) (lines_text 16 (run ∷ others) ++ b.0),
      length-append (lines_text 16 (run ∷ others)) b.0,
      lines,
      decimal_length mark.writes (omega (arith, b.2, are.turns)),
      decimal_length mark.console (omega (arith, b.3, are.turns)),
    )

    sum : (total < limits.block) ⊎ (limits.block ≤ total) → (most_behind (behind_of limits total) ≤ 100 * limits.turns + 100 → length b.0 ≤ most_behind (behind_of limits total)) → length text ≤ 100 * total + 100
    sum (inl lt) rest =
        let none : most_behind (behind_of limits total) ≡ 0 = ap most_behind (behind_part limits total lt) in
        omega (arith, front, none, rest (omega (arith, none)))
    sum (inr le) rest =
        let whole : most_behind (behind_of limits total) ≡ 100 * (total - limits.block) + 100 = ap most_behind (behind_whole limits total le) in
        omega (arith, front, whole, are.block, rest (omega (arith, whole, small)))

most_small : (behind : Option ℕ) (turns : ℕ) → IsNumberBelow behind turns → most_behind behind ≤ 100 * turns + 100
most_small None turns below = omega arith
most_small (Some total) turns below = omega (arith, below)

-- a text behind the head is shorter than 2 ^ 40
pub text_length : (limits : Limits) (block : Block) (bytes : List ℕ) (decoded : List Item) → AreLimits limits → IsSound limits (First block)
    → Completes limits (First block) bytes decoded → length bytes < 2 ^ 40
text_length limits block bytes decoded are sound t =
    by (letter_back (Behind limits block.behind) limits.cores limits.cores 15 block.left bytes t.all t.later t.holds)
  where
    small : most_behind block.behind ≤ 100 * limits.turns + 100
    small = most_small block.behind limits.turns sound.1.1

    by : AtRun (Behind limits block.behind) limits.cores limits.cores 16 block.left bytes t.all t.later → length bytes < 2 ^ 40
    by at = omega (
      arith,
      are.turns,
      ap length at.text,
      length-append (lines_text 16 t.all) at.after,
      small,
      lines_length t.all limits.cores limits.cores block.left 16 (omega (arith, are.turns, sound.1.0)) at.follow,
      sound.1.0,
      behind_length t.later limits block.behind (left_after block.left t.all) at.after are small at.behind,
    )
