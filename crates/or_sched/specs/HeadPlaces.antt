-- Places in the head of a recording, and what completes each of them.
use Rattle.std.specs.Prelude.{◌≡◌, ℕ, ◌+◌, ◌≤◌, ◌<◌, ◌==◌, List, [], ◌∷◌, ◌++◌, Option, Some, None, codes, take, length, true, false, ◌⊎◌, if◌then◌else◌, slice_set}
use Rattle.std.specs.Fmt.{digit_glyph}
use Rattle.std.proofs.Props.{props}
use Rattle.or_words.specs.declared.limits.TheConstants.{MOST_CORES, MOST_BUDGET, MOST_RAM}
use Rattle.or_text.specs.Hexadecimal.{digest_text}
use Rattle.or_sched.specs.declared.head.Known.{Known}
use Rattle.or_sched.specs.declared.head.Literal.{Literal}
use Rattle.or_sched.specs.declared.head.Literal.TheVariants.{Orsched, Cores, Budget, Ram, Latched, Image, Input}
use Rattle.or_sched.specs.declared.head.Field.{Field}
use Rattle.or_sched.specs.declared.head.Field.TheVariants.{Cores as CoresField, Budget as BudgetField, Ram as RamField}
use Rattle.or_sched.specs.declared.head.TopLine.{TopLine}
use Rattle.or_sched.specs.declared.head.TopLine.TheVariants.{First, Second}
use Rattle.or_sched.specs.declared.head.DigestLine.{DigestLine}
use Rattle.or_sched.specs.declared.head.DigestLine.TheVariants.{Image as ImageLine, Input as InputLine}
use Rattle.or_sched.specs.declared.head.HeadPlace.{HeadPlace}
use Rattle.or_sched.specs.declared.head.HeadPlace.TheVariants.{Text, Version, LineEnd, Number, Digits, Behind}
use Rattle.or_sched.specs.declared.head.HeadStep.{HeadStep}
use Rattle.or_sched.specs.declared.head.HeadStep.TheVariants.{Refused, Goes}
use Rattle.or_sched.specs.Places.{InNumber}
use Rattle.or_sched.specs.HeadText.{IsDigest}

abbrev pub literal_bytes : Literal → List ℕ
literal_bytes Orsched = codes "orsched "
literal_bytes Cores = codes "cores "
literal_bytes Budget = codes "budget "
literal_bytes Ram = codes "ram "
literal_bytes Latched = codes "pic latched"
literal_bytes Image = codes "image "
literal_bytes Input = codes "input "

abbrev pub behind_literal : Literal → HeadPlace
behind_literal Orsched = Version
behind_literal Cores = Number CoresField None
behind_literal Budget = Number BudgetField None
behind_literal Ram = Number RamField None
behind_literal Latched = LineEnd Second
behind_literal Image = Digits ImageLine 0 None
behind_literal Input = Digits InputLine 0 None

abbrev pub behind_line : TopLine → HeadPlace
behind_line First = Text Cores 0
behind_line Second = Text Image 0

abbrev pub behind_digest : DigestLine → HeadPlace
behind_digest ImageLine = Text Input 0
behind_digest InputLine = Behind

-- the line of a place, from 1; 5 is behind the head
abbrev pub literal_line : Literal → ℕ
literal_line Orsched = 1
literal_line Cores = 2
literal_line Budget = 2
literal_line Ram = 2
literal_line Latched = 2
literal_line Image = 3
literal_line Input = 4

abbrev pub top_line : TopLine → ℕ
top_line First = 1
top_line Second = 2

abbrev pub digest_number : DigestLine → ℕ
digest_number ImageLine = 3
digest_number InputLine = 4

abbrev pub line_of : HeadPlace → ℕ
line_of (Text literal seen) = literal_line literal
line_of Version = 1
line_of (LineEnd line) = top_line line
line_of (Number field number) = 2
line_of (Digits line count high) = digest_number line
line_of Behind = 5

-- how many lines the byte ends
abbrev pub feed : ℕ → ℕ
feed byte = if byte == 10 then 1 else 0

abbrev pub StepLines : HeadPlace → ℕ → HeadStep → Type 0
StepLines place byte Refused = Unit {0}
StepLines place byte (Goes next known) = line_of next ≡ line_of place + feed byte

-- behind `seen` bytes of a text, behind which C holds of what follows
pub record InText (C : List ℕ → Type 0) (text : List ℕ) (seen : ℕ) (rest : List ℕ) : Type 0 where
  pub more : List ℕ
  pub whole : take seen text ++ rest ≡ text ++ more
  pub follows : C more

-- behind some digits of a number from least to most, whose end is a byte, and C holds of what follows
pub record InField (number : Option ℕ) (end least most : ℕ) (C : ℕ → List ℕ → Type 0) (rest : List ℕ) : Type 0 where
  pub value : ℕ
  pub more : List ℕ
  pub digits : InNumber number end value more rest
  pub large : least ≤ value
  pub small : value ≤ most
  pub follows : C value more

-- behind the digits `front` of a digest, behind whose line feed C holds
pub record InDigest (C : List ℕ → List ℕ → Type 0) (front rest : List ℕ) : Type 0 where
  pub bytes : List ℕ
  pub tail : List ℕ
  pub more : List ℕ
  pub is : IsDigest bytes
  pub digits : front ++ tail ≡ digest_text bytes
  pub text : rest ≡ tail ++ 10 ∷ more
  pub follows : C bytes more

-- the digits of so many bytes, and perhaps a high digit
abbrev pub high_text : Option ℕ → List ℕ
high_text None = []
high_text (Some high) = digit_glyph false high ∷ []

abbrev pub digits_so_far : List ℕ → ℕ → Option ℕ → List ℕ
digits_so_far bytes count high = digest_text (take count bytes) ++ high_text high

abbrev pub digest_of : DigestLine → Known → List ℕ
digest_of ImageLine known = known.image
digest_of InputLine known = known.input

abbrev pub with_byte : Known → DigestLine → ℕ → ℕ → Known
with_byte known ImageLine place byte = record known { image = slice_set known.image place byte }
with_byte known InputLine place byte = record known { input = slice_set known.input place byte }

abbrev pub AreDigests : Known → Type 0
AreDigests known = IsDigest known.image × IsDigest known.input

module _ (final : Known) (end : List ℕ) where
  -- the texts that complete each place: they say `final`, and `end` stands behind the head
  abbrev pub AtBehind : Known → List ℕ → Type 0
  AtBehind known rest = (final ≡ known) × (rest ≡ end)

  abbrev pub AtInput : Known → List ℕ → List ℕ → Type 0
  AtInput known front rest = InDigest (λ bytes more. AtBehind (record known { input = bytes }) more) front rest

  abbrev pub AtImage : Known → List ℕ → List ℕ → Type 0
  AtImage known front rest = InDigest (λ bytes more. InText (AtInput (record known { image = bytes }) []) (literal_bytes Input) 0 more) front rest

  abbrev pub AtSecond : Known → List ℕ → Type 0
  AtSecond known rest = (more : List ℕ) × (rest ≡ 10 ∷ more) × InText (AtImage known []) (literal_bytes Image) 0 more

  abbrev pub AtRam : Known → Option ℕ → List ℕ → Type 0
  AtRam known number rest =
      InField number 10 1 MOST_RAM (λ ram more. InText (AtImage (record known { ram = ram; latched = false }) []) (literal_bytes Image) 0 more) rest
      ⊎ ((known.version ≡ 2) × InField number 32 1 MOST_RAM
      (λ ram more. InText (AtSecond (record known { ram = ram; latched = true })) (literal_bytes Latched) 0 more) rest)

  abbrev pub AtBudget : Known → Option ℕ → List ℕ → Type 0
  AtBudget known number rest = InField number 32 1 MOST_BUDGET
      (λ budget more. InText (AtRam (record known { budget = budget }) None) (literal_bytes Ram) 0 more) rest

  abbrev pub AtCores : Known → Option ℕ → List ℕ → Type 0
  AtCores known number rest = InField number 32 1 MOST_CORES
      (λ cores more. InText (AtBudget (record known { cores = cores }) None) (literal_bytes Budget) 0 more) rest

  abbrev pub AtFirst : Known → List ℕ → Type 0
  AtFirst known rest = (more : List ℕ) × (rest ≡ 10 ∷ more) × InText (AtCores known None) (literal_bytes Cores) 0 more

  abbrev pub AtVersion : Known → List ℕ → Type 0
  AtVersion known rest = (version : ℕ) × (more : List ℕ) × (rest ≡ (48 + version) ∷ more) × ((version ≡ 1) ⊎ (version ≡ 2))
      × AtFirst (record known { version = version }) more

  abbrev pub AtLineEnd : TopLine → Known → List ℕ → Type 0
  AtLineEnd First known rest = AtFirst known rest
  AtLineEnd Second known rest = AtSecond known rest

  abbrev pub AtNumber : Field → Known → Option ℕ → List ℕ → Type 0
  AtNumber CoresField known number rest = AtCores known number rest
  AtNumber BudgetField known number rest = AtBudget known number rest
  AtNumber RamField known number rest = AtRam known number rest

  abbrev pub AtDigits : DigestLine → Known → List ℕ → List ℕ → Type 0
  AtDigits ImageLine known front rest = AtImage known front rest
  AtDigits InputLine known front rest = AtInput known front rest

  abbrev pub FollowsLiteral : Literal → Known → List ℕ → Type 0
  FollowsLiteral Orsched known rest = AtVersion known rest
  FollowsLiteral Cores known rest = AtCores known None rest
  FollowsLiteral Budget known rest = AtBudget known None rest
  FollowsLiteral Ram known rest = AtRam known None rest
  FollowsLiteral Latched known rest = AtSecond known rest
  FollowsLiteral Image known rest = AtImage known [] rest
  FollowsLiteral Input known rest = AtInput known [] rest

  abbrev pub HeadCompletes : Known → HeadPlace → List ℕ → Type 0
  HeadCompletes known (Text literal seen) rest = InText (FollowsLiteral literal known) (literal_bytes literal) seen rest
  HeadCompletes known Version rest = AtVersion known rest
  HeadCompletes known (LineEnd line) rest = AtLineEnd line known rest
  HeadCompletes known (Number field number) rest = AtNumber field known number rest
  HeadCompletes known (Digits line count high) rest = AtDigits line known (digits_so_far (digest_of line known) count high) rest
  HeadCompletes known Behind rest = AtBehind known rest

-- the byte leads from a place to the next
pub record HeadStepKeeps (known : Known) (place : HeadPlace) (byte : ℕ) (known_next : Known) (next : HeadPlace) : Type 0 where
  pub keeps : (final : Known) (end rest : List ℕ) → HeadCompletes final end known place (byte ∷ rest) → HeadCompletes final end known_next next rest
  pub back : (final : Known) (end rest : List ℕ) → HeadCompletes final end known_next next rest → HeadCompletes final end known place (byte ∷ rest)

abbrev pub HeadStepIs : Known → HeadPlace → ℕ → HeadStep → Type 0
HeadStepIs known place byte Refused = (final : Known) (end rest : List ℕ) → HeadCompletes final end known place (byte ∷ rest) → ⊥
HeadStepIs known place byte (Goes next known_next) = HeadStepKeeps known place byte known_next next × AreDigests known_next

abbrev pub field_most : Field → ℕ
field_most CoresField = MOST_CORES
field_most BudgetField = MOST_BUDGET
field_most RamField = MOST_RAM

abbrev pub IsNumberFrom : Option ℕ → ℕ → Type 0
IsNumberFrom None most = Unit {0}
IsNumberFrom (Some n) most = (1 ≤ n) × (n ≤ most)

abbrev pub IsHigh : Option ℕ → ℕ → Type 0
IsHigh None count = Unit {0}
IsHigh (Some high) count = (high < 16) × (count < 32)

-- places that some text completes
abbrev pub HeadSound : HeadPlace → Type 0
HeadSound (Text literal seen) = seen < length (literal_bytes literal)
HeadSound Version = Unit {0}
HeadSound (LineEnd line) = Unit {0}
HeadSound (Number field number) = IsNumberFrom number (field_most field)
HeadSound (Digits line count high) = (count ≤ 32) × IsHigh high count
HeadSound Behind = Unit {0}

abbrev pub HasCores : Known → Type 0
HasCores known = (1 ≤ known.cores) × (known.cores ≤ MOST_CORES)

abbrev pub HasBudget : Known → Type 0
HasBudget known = HasCores known × (1 ≤ known.budget) × (known.budget ≤ MOST_BUDGET)

abbrev pub HasSettings : Known → Type 0
HasSettings known = HasBudget known × (1 ≤ known.ram) × (known.ram ≤ MOST_RAM)

-- the settings that came before the place are in their ranges
abbrev pub LiteralSound : Known → Literal → Type 0
LiteralSound known Orsched = Unit {0}
LiteralSound known Cores = Unit {0}
LiteralSound known Budget = HasCores known
LiteralSound known Ram = HasBudget known
LiteralSound known Latched = HasSettings known
LiteralSound known Image = HasSettings known
LiteralSound known Input = HasSettings known

abbrev pub LineSound : Known → TopLine → Type 0
LineSound known First = Unit {0}
LineSound known Second = HasSettings known

abbrev pub FieldSound : Known → Field → Type 0
FieldSound known CoresField = Unit {0}
FieldSound known BudgetField = HasCores known
FieldSound known RamField = HasBudget known

abbrev pub KnownSound : Known → HeadPlace → Type 0
KnownSound known (Text literal seen) = LiteralSound known literal
KnownSound known Version = Unit {0}
KnownSound known (LineEnd line) = LineSound known line
KnownSound known (Number field number) = FieldSound known field
KnownSound known (Digits line count high) = HasSettings known
KnownSound known Behind = HasSettings known

abbrev pub HeadStepSound : HeadStep → Type 0
HeadStepSound Refused = Unit {0}
HeadStepSound (Goes next known) = HeadSound next × KnownSound known next

-- such facts have one proof
IsNumberFrom-prop : (number : Option ℕ) (most : ℕ) → IsProp (IsNumberFrom number most)
IsNumberFrom-prop None most = hlevel props
IsNumberFrom-prop (Some n) most = hlevel props

IsHigh-prop : (high : Option ℕ) (count : ℕ) → IsProp (IsHigh high count)
IsHigh-prop None count = hlevel props
IsHigh-prop (Some high) count = hlevel props

pub HeadSound-prop : (place : HeadPlace) → IsProp (HeadSound place)
HeadSound-prop (Text literal seen) = hlevel props
HeadSound-prop Version = hlevel props
HeadSound-prop (LineEnd line) = hlevel props
HeadSound-prop (Number field number) = IsNumberFrom-prop number (field_most field)
HeadSound-prop (Digits line count high) = hlevel (props, IsHigh-prop high count)
HeadSound-prop Behind = hlevel props

LiteralSound-prop : (known : Known) (literal : Literal) → IsProp (LiteralSound known literal)
LiteralSound-prop known Orsched = hlevel props
LiteralSound-prop known Cores = hlevel props
LiteralSound-prop known Budget = hlevel props
LiteralSound-prop known Ram = hlevel props
LiteralSound-prop known Latched = hlevel props
LiteralSound-prop known Image = hlevel props
LiteralSound-prop known Input = hlevel props

LineSound-prop : (known : Known) (line : TopLine) → IsProp (LineSound known line)
LineSound-prop known First = hlevel props
LineSound-prop known Second = hlevel props

FieldSound-prop : (known : Known) (field : Field) → IsProp (FieldSound known field)
FieldSound-prop known CoresField = hlevel props
FieldSound-prop known BudgetField = hlevel props
FieldSound-prop known RamField = hlevel props

pub KnownSound-prop : (known : Known) (place : HeadPlace) → IsProp (KnownSound known place)
KnownSound-prop known (Text literal seen) = LiteralSound-prop known literal
KnownSound-prop known Version = hlevel props
KnownSound-prop known (LineEnd line) = LineSound-prop known line
KnownSound-prop known (Number field number) = FieldSound-prop known field
KnownSound-prop known (Digits line count high) = hlevel props
KnownSound-prop known Behind = hlevel props
