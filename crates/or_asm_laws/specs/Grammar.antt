-- The form of a line, as a spelling: blanks, a label with its colon, blanks, a statement, blanks, a comment.
use Rattle.std.specs.Prelude.{◌≡◌, ◌≢◌, ℕ, ◌==◌, true, false, not, List, [], ◌∷◌, ◌++◌, codes, Option, Some, None}
use Rattle.std.specs.List.{list_all}
use Rattle.or_asm_read.specs.Cuts.{is_blank, is_label, trimmed_end}

abbrev pub AreBlanks : List ℕ → Type 0
AreBlanks bs = list_all is_blank bs ≡ true

abbrev pub IsComment : List ℕ → Type 0
IsComment [] = Unit {0}
IsComment (b ∷ bs) = b ≡ 35

abbrev pub HasNoHash : List ℕ → Type 0
HasNoHash bs = list_all (λ b. not (b == 35)) bs ≡ true

-- without blanks at the ends
abbrev pub IsTight : List ℕ → Type 0
IsTight [] = Unit {0}
IsTight (b ∷ bs) = (is_blank b ≡ false) × (trimmed_end (b ∷ bs) ≡ b ∷ bs)

abbrev pub label_text : Option (List ℕ) → List ℕ
label_text None = []
label_text (Some name) = name ++ 58 ∷ []

-- a label, or a statement that does not itself begin with a label and its colon
abbrev pub IsLabelled : Option (List ℕ) → List ℕ → Type 0
IsLabelled (Some name) statement = is_label name ≡ true
IsLabelled None statement = (name rest : List ℕ) → is_label name ≡ true → statement ≢ name ++ 58 ∷ rest

pub record IsLine (line : List ℕ) (label : Option (List ℕ)) (statement : List ℕ) : Type 0 where
  pub lead : List ℕ
  pub gap : List ℕ
  pub tail : List ℕ
  pub comment : List ℕ
  pub lead_blank : AreBlanks lead
  pub gap_blank : AreBlanks gap
  pub tail_blank : AreBlanks tail
  pub is_comment : IsComment comment
  pub labelled : IsLabelled label statement
  pub tight : IsTight statement
  pub no_hash : HasNoHash statement
  pub whole : line ≡ lead ++ (label_text label ++ (gap ++ (statement ++ (tail ++ comment))))

-- a line that sets the place to a number in some spelling
abbrev pub org_line : List ℕ → List ℕ
org_line number = codes ".org " ++ number
