-- The parts of a line.
use Rattle.std.specs.Prelude.{ℕ, ◌==◌, nat_lt, nat_le, if◌then◌else◌, Bool, false, ◌&&◌, ◌||◌, List, [], ◌∷◌, length, Option, Some, None}
use Rattle.std.specs.List.{before_first, after_first, list_all, list_any}
use Rattle.or_words.specs.declared.limits.TheConstants.{LABEL_LIMIT}

-- a blank or a tab
abbrev pub is_blank : ℕ → Bool
is_blank b = b == 32 || b == 9

-- what a line may have outside its comment: printable ASCII, blanks and tabs
abbrev pub is_allowed : ℕ → Bool
is_allowed b = b == 9 || (nat_le 32 b && nat_lt b 127)

abbrev pub is_label_start : ℕ → Bool
is_label_start b = (nat_le 65 b && nat_le b 90) || (nat_le 97 b && nat_le b 122) || b == 95

abbrev pub is_decimal_digit : ℕ → Bool
is_decimal_digit b = nat_le 48 b && nat_le b 57

abbrev pub is_label_byte : ℕ → Bool
is_label_byte b = is_label_start b || is_decimal_digit b

-- a letter or _, then letters, digits and _
unfoldable pub is_label : List ℕ → Bool
is_label [] = false
is_label (b ∷ bs) = is_label_start b && list_all is_label_byte bs && nat_lt (length bs) LABEL_LIMIT

-- without the blanks in front
abbrev pub trimmed_start : List ℕ → List ℕ
trimmed_start [] = []
trimmed_start (b ∷ bs) = if is_blank b then trimmed_start bs else b ∷ bs

-- without the blanks behind
abbrev pub onto : ℕ → List ℕ → List ℕ
onto b [] = if is_blank b then [] else b ∷ []
onto b (c ∷ cs) = b ∷ c ∷ cs

abbrev pub trimmed_end : List ℕ → List ℕ
trimmed_end [] = []
trimmed_end (b ∷ bs) = onto b (trimmed_end bs)

abbrev pub trimmed : List ℕ → List ℕ
trimmed bs = trimmed_end (trimmed_start bs)

-- before and after the first such byte
abbrev pub before : ℕ → List ℕ → List ℕ
before c bs = before_first (λ b. b == c) bs

abbrev pub after : ℕ → List ℕ → List ℕ
after c bs = after_first (λ b. b == c) bs

abbrev pub has : ℕ → List ℕ → Bool
has c bs = list_any (λ b. b == c) bs

-- a line without its comment and the blanks in front
unfoldable pub body_of : List ℕ → List ℕ
body_of line = trimmed_start (before 35 line)

unfoldable pub is_clean : List ℕ → Bool
is_clean line = list_all is_allowed (before 35 line)

-- whether a line begins with a label and its colon
unfoldable pub has_label : List ℕ → Bool
has_label line = has 58 (body_of line) && is_label (before 58 (body_of line))

abbrev pub label_of : List ℕ → Option (List ℕ)
label_of line = if has_label line then Some (before 58 (body_of line)) else None

unfoldable pub statement_of : List ℕ → List ℕ
statement_of line = trimmed (if has_label line then after 58 (body_of line) else body_of line)

-- a statement's name, and what stands behind it
unfoldable pub name_part : List ℕ → List ℕ
name_part statement = before_first is_blank statement

unfoldable pub operands_part : List ℕ → List ℕ
operands_part statement = after_first is_blank statement
