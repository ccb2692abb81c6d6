-- What completes each place in the text of a recording behind its head, and what a byte makes of a place.
use Rattle.std.specs.Prelude.{◌≡◌, ℕ, ◌-◌, ◌≤◌, ◌<◌, ◌^◌, List, [], ◌∷◌, ◌++◌, Option, Some, None, min, codes, decimal, take, Bool, true, false}
use Rattle.std.proofs.Common.{inl, inr}
use Rattle.std.proofs.Props.{props}
use Rattle.or_words.specs.declared.limits.TheConstants.{MOST_CORES}
use Rattle.or_sched.specs.declared.recording.Mark.{Mark}
use Rattle.or_sched.specs.declared.places.Limits.{Limits}
use Rattle.or_sched.specs.declared.places.Block.{Block}
use Rattle.or_sched.specs.declared.places.Begun.{Begun}
use Rattle.or_sched.specs.declared.places.Place.{Place}
use Rattle.or_sched.specs.declared.places.Place.TheVariants.{First, Run, Line, Word, Writes, Console, Done}
use Rattle.or_sched.specs.declared.places.Step.{Step}
use Rattle.or_sched.specs.declared.places.Step.TheVariants.{Refused, Goes, EndsRun, EndsMark}
use Rattle.or_sched.specs.RunRests.{InRun, Opens, AtLine}
use Rattle.or_sched.specs.Blocks.{Item, mark_line}
use Rattle.or_sched.specs.BlockRests.{Later, items, Behind, behind_of}

-- the digits that have come of a number
abbrev pub digits_text : Option ℕ → List ℕ
digits_text None = []
digits_text (Some n) = decimal n

-- behind some digits of a number, whose end is a byte behind which `more` stands
pub record InNumber (number : Option ℕ) (end value : ℕ) (more rest : List ℕ) : Type 0 where
  pub tail : List ℕ
  pub digits : digits_text number ++ tail ≡ decimal value
  pub text : rest ≡ tail ++ end ∷ more

-- what may stand behind a mark with `total` turns left: nothing, or a block
abbrev pub Onward : Limits → ℕ → List ℕ → List (ℕ × ℕ) → Later → Type 0
Onward limits total rest all later =
    AtLine (Behind limits (behind_of limits total)) limits.cores limits.cores (min total limits.block) rest all later

-- this mark has come, and what stands behind its line
pub record Marked (limits : Limits) (total : ℕ) (decoded : List Item) (mark : Mark) (more : List ℕ) : Type 0 where
  pub all : List (ℕ × ℕ)
  pub later : Later
  pub parts : decoded ≡ inr mark ∷ items all later
  pub writes : mark.writes ≤ limits.turns - total
  pub console : mark.console ≤ limits.turns - total
  pub onward : Onward limits total more all later

-- runs and what stands behind their block
pub record Decoded (decoded : List Item) (P : List (ℕ × ℕ) → Later → Type 0) : Type 0 where
  pub all : List (ℕ × ℕ)
  pub later : Later
  pub parts : decoded ≡ items all later
  pub holds : P all later

-- the text `rest` completes the place, and tells of these runs and marks
abbrev pub Completes : Limits → Place → List ℕ → List Item → Type 0
Completes limits (First block) rest decoded =
    Decoded decoded (λ all later. Opens (Behind limits block.behind) limits.cores limits.cores 15 block.left rest all later)
Completes limits (Run begun) rest decoded =
    Decoded decoded (λ all later. InRun (Behind limits begun.block.behind) limits.cores begun.core begun.number begun.room begun.block.left rest all later)
Completes limits (Line core block) rest decoded =
    Decoded decoded (λ all later. AtLine (Behind limits block.behind) limits.cores core block.left rest all later)
Completes limits (Word seen total) rest decoded =
    (mark : Mark) × (more : List ℕ) × (take seen (codes "mark ") ++ rest ≡ mark_line mark ++ more) × Marked limits total decoded mark more
Completes limits (Writes number total) rest decoded =
    (mark : Mark) × (more : List ℕ) × InNumber number 32 mark.writes (decimal mark.console ++ 10 ∷ more) rest × Marked limits total decoded mark more
Completes limits (Console writes number total) rest decoded =
    (console : ℕ) × (more : List ℕ) × InNumber number 10 console more rest × Marked limits total decoded (record { writes = writes; console = console }) more
Completes limits Done rest decoded = (rest ≡ []) × (decoded ≡ [])

-- the byte leads from a place to the next, and these runs and marks have ended
pub record StepKeeps (limits : Limits) (place : Place) (byte : ℕ) (ended : List Item) (next : Place) : Type 0 where
  pub keeps : (rest : List ℕ) (decoded : List Item) → Completes limits place (byte ∷ rest) decoded → (others : List Item) × (decoded ≡ ended ++ others) × Completes limits next rest others
  pub back : (rest : List ℕ) (others : List Item) → Completes limits next rest others → Completes limits place (byte ∷ rest) (ended ++ others)

-- no text goes on from the place with this byte
abbrev pub StepRefuses : Limits → Place → ℕ → Type 0
StepRefuses limits place byte = (rest : List ℕ) (decoded : List Item) → Completes limits place (byte ∷ rest) decoded → ⊥

abbrev pub StepIs : Limits → Place → ℕ → Step → Type 0
StepIs limits place byte Refused = StepRefuses limits place byte
StepIs limits place byte (Goes next) = StepKeeps limits place byte [] next
StepIs limits place byte (EndsRun core count next) = StepKeeps limits place byte (inl (core, count) ∷ []) next
StepIs limits place byte (EndsMark mark next) = StepKeeps limits place byte (inr mark ∷ []) next

abbrev pub IsNumberBelow : Option ℕ → ℕ → Type 0
IsNumberBelow None most = Unit {0}
IsNumberBelow (Some n) most = n ≤ most

-- a block that may stand in a recording
abbrev pub IsSoundBlock : Limits → Block → Type 0
IsSoundBlock limits block = (block.left ≤ limits.turns) × IsNumberBelow block.behind limits.turns

-- places that some text completion
abbrev pub IsSound : Limits → Place → Type 0
IsSound limits (First block) = (1 ≤ block.left) × IsSoundBlock limits block
IsSound limits (Run begun) =
    (begun.core < limits.cores) × (1 ≤ begun.block.left) × IsSoundBlock limits begun.block × (begun.number ≤ begun.block.left)
    × (begun.number ≡ 1 → 10 ≤ begun.block.left) × (begun.room < 16)
IsSound limits (Line core block) = (1 ≤ block.left) × IsSoundBlock limits block
IsSound limits (Word seen total) = (seen < 5) × (total ≤ limits.turns)
IsSound limits (Writes number total) = IsNumberBelow number (limits.turns - total) × (total ≤ limits.turns)
IsSound limits (Console writes number total) = IsNumberBelow number (limits.turns - total) × (writes ≤ limits.turns - total) × (total ≤ limits.turns)
IsSound limits Done = Unit {0}

abbrev pub StepSound : Limits → Step → Type 0
StepSound limits Refused = Unit {0}
StepSound limits (Goes next) = IsSound limits next
StepSound limits (EndsRun core count next) = IsSound limits next
StepSound limits (EndsMark mark next) = IsSound limits next

-- limits that a config gives
pub record AreLimits (limits : Limits) : Type 0 where
  pub cores : (1 ≤ limits.cores) × (limits.cores ≤ MOST_CORES)
  pub turns : (1 ≤ limits.turns) × (limits.turns < 2 ^ 32)
  pub block : 1 ≤ limits.block

-- the texts of P, with their runs and what stands behind the block, are those that complete the place
pub record Leads (limits : Limits) (place : Place) (P : List ℕ → List (ℕ × ℕ) → Later → Type 0) : Type 0 where
  pub there : (rest : List ℕ) (all : List (ℕ × ℕ)) (later : Later) → P rest all later → Completes limits place rest (items all later)
  pub back : (rest : List ℕ) (decoded : List Item) → Completes limits place rest decoded → Decoded decoded (P rest)

-- where a letter must stand, the byte opens this run
pub record OpensTo (limits : Limits) (core room : ℕ) (block : Block) (byte : ℕ) (begun : Begun) : Type 0 where
  pub there : (rest : List ℕ) (all : List (ℕ × ℕ)) (later : Later)
      → Opens (Behind limits block.behind) limits.cores core room block.left (byte ∷ rest) all later
      → InRun (Behind limits begun.block.behind) limits.cores begun.core begun.number begun.room begun.block.left rest all later
  pub back : (rest : List ℕ) (all : List (ℕ × ℕ)) (later : Later)
      → InRun (Behind limits begun.block.behind) limits.cores begun.core begun.number begun.room begun.block.left rest all later
      → Opens (Behind limits block.behind) limits.cores core room block.left (byte ∷ rest) all later
  pub sound : IsSound limits (Run begun)

abbrev pub OpenIs : Limits → ℕ → ℕ → Block → ℕ → Option Begun → Type 0
OpenIs limits core room block byte None =
    (rest : List ℕ) (all : List (ℕ × ℕ)) (later : Later) → Opens (Behind limits block.behind) limits.cores core room block.left (byte ∷ rest) all later → ⊥
OpenIs limits core room block byte (Some begun) = OpensTo limits core room block byte begun

-- where digits of a number of at most `most` have come, the byte is no digit that can come, or leads to a greater number
pub record DigitTo (number : Option ℕ) (byte most next : ℕ) : Type 0 where
  pub fits : next ≤ most
  pub there : (end value : ℕ) (more rest : List ℕ) → end < 48 → value ≤ most → InNumber number end value more (byte ∷ rest) → InNumber (Some next) end value more rest
  pub back : (end value : ℕ) (more rest : List ℕ) → InNumber (Some next) end value more rest → InNumber number end value more (byte ∷ rest)

abbrev pub DigitIs : Option ℕ → ℕ → ℕ → Option ℕ → Type 0
DigitIs number byte most None =
    (end value : ℕ) (more rest : List ℕ) → end < 48 → value ≤ most → InNumber number end value more (byte ∷ rest) → ⊥
DigitIs number byte most (Some next) = DigitTo number byte most next

abbrev pub WithinIs : ℕ → ℕ → Option ℕ → Type 0
WithinIs n most None = most < n
WithinIs n most (Some next) = (next ≡ n) × (n ≤ most)

-- nothing need follow the place
abbrev pub ends_at : Place → Bool
ends_at (First block) = false
ends_at (Run begun) = false
ends_at (Line core block) = true
ends_at (Word seen total) = false
ends_at (Writes number total) = false
ends_at (Console writes number total) = false
ends_at Done = true

-- such facts have one proof
pub IsNumberBelow-prop : (number : Option ℕ) (most : ℕ) → IsProp (IsNumberBelow number most)
IsNumberBelow-prop None most = hlevel props
IsNumberBelow-prop (Some n) most = hlevel props

pub IsSound-prop : (limits : Limits) (place : Place) → IsProp (IsSound limits place)
IsSound-prop limits (First block) = hlevel (props, IsNumberBelow-prop block.behind limits.turns)
IsSound-prop limits (Run begun) = hlevel (props, IsNumberBelow-prop begun.block.behind limits.turns)
IsSound-prop limits (Line core block) = hlevel (props, IsNumberBelow-prop block.behind limits.turns)
IsSound-prop limits (Word seen total) = hlevel props
IsSound-prop limits (Writes number total) = hlevel (props, IsNumberBelow-prop number (limits.turns - total))
IsSound-prop limits (Console writes number total) = hlevel (props, IsNumberBelow-prop number (limits.turns - total))
IsSound-prop limits Done = hlevel props

pub AreLimits-prop : (limits : Limits) → IsProp (AreLimits limits)
AreLimits-prop limits = hlevel props
