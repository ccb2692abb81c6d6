-- Lists that were appended in groups, as one list that is joined from the left.
use Rattle.std.proofs.Common.{◌≡◌, ◌∙◌, ap, sym, ℕ, List, ◌++◌, append_assoc}

two : (front a b : List ℕ) → front ++ (a ++ b) ≡ front ++ a ++ b
two front a b = sym (append_assoc front a b)

three : (front a b c : List ℕ) → front ++ (a ++ b ++ c) ≡ front ++ a ++ b ++ c
three front a b c = two front (a ++ b) c ∙ ap (λ l. l ++ c) (two front a b)

four : (front a b c d : List ℕ) → front ++ (a ++ b ++ c ++ d) ≡ front ++ a ++ b ++ c ++ d
four front a b c d = two front (a ++ b ++ c) d ∙ ap (λ l. l ++ d) (three front a b c)

five : (front a b c d e : List ℕ) → front ++ (a ++ b ++ c ++ d ++ e) ≡ front ++ a ++ b ++ c ++ d ++ e
five front a b c d e = two front (a ++ b ++ c ++ d) e ∙ ap (λ l. l ++ e) (four front a b c d)

pub then_one : (old front a mid new : List ℕ) → mid ≡ old ++ front → new ≡ mid ++ a → new ≡ old ++ (front ++ a)
then_one old front a mid new first last = last ∙ (ap (λ l. l ++ a) first ∙ append_assoc old front a)

pub then_two : (old front a b mid new : List ℕ) → mid ≡ old ++ front → new ≡ mid ++ (a ++ b) → new ≡ old ++ (front ++ a ++ b)
then_two old front a b mid new first last = then_one old front (a ++ b) mid new first last ∙ ap (λ l. old ++ l) (two front a b)

pub then_five : (old front a b c d e mid new : List ℕ) → mid ≡ old ++ front → new ≡ mid ++ (a ++ b ++ c ++ d ++ e) → new ≡ old ++ (front ++ a ++ b ++ c ++ d ++ e)
then_five old front a b c d e mid new first last = then_one old front (a ++ b ++ c ++ d ++ e) mid new first last ∙ ap (λ l. old ++ l) (five front a b c d e)
