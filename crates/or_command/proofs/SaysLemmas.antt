-- One piece of a line after another.
use Rattle.std.proofs.Common.{◌≡◌, ◌∙◌, sym, ap, refl, ℕ, List, [], ◌∷◌, ◌++◌, ◌/◌, ◌%◌, ◌^◌, ◌<◌, ◌≤◌, ◌+◌, Ok, Err, inl, inr, append_assoc, codes, decimal, subst}
use Rattle.std.specs.Prelude.{Result}
use Rattle.std.proofs.lemmas.Fmt.{decimal_step, decimal_digit}
use Rattle.or_text.specs.declared.sentence.Sentence.{Sentence}
use Rattle.or_text.specs.Sentences.{clause_text, sentence_text, sentence_line}
use Rattle.or_host.specs.Bytes.{Adds, AddsPrefix}
use Rattle.or_host.specs.HostState.{HostState}
use Rattle.or_command.specs.Leaves.{Silent}
use Rattle.or_command.specs.Said.{OnlySays, Said, SaidLine}
use Rattle.or_command.proofs.TellsLemmas.{same_refl, same_then, same_then_step, adds_none, later_rose}

-- nothing was said yet
pub said_none : {U E : Type 0} (u : U) (s : HostState) → Said {U = U} {E = E} (Ok u) [] s s
said_none u s = record {
  says = (adds_none s.said s.said (same_refl s.said), refl);
  only = record { names = λ name. same_refl (s.holds name); written = same_refl s.written; faults = refl; lacks = refl; blame = refl };
}

-- the same line in another form
pub said_as : {U E : Type 0} (r : Result U E) (line other : List ℕ) (a b : HostState) → line ≡ other → Said r line a b → Said r other a b
said_as r line other a b e = subst (λ (l : List ℕ). Said r l a b) e

-- a number's front and then its last digit
pub number_end : (line : List ℕ) (n : ℕ) → 10 ≤ n → n < 2 ^ 64 → (line ++ decimal (n / 10)) ++ (48 + n % 10) ∷ [] ≡ line ++ decimal n
number_end line n large small = append_assoc line (decimal (n / 10)) ((48 + n % 10) ∷ []) ∙ ap (λ d. line ++ d) (sym (decimal_step n large small))

pub number_digit : (line : List ℕ) (n : ℕ) → n < 10 → line ++ (48 + n) ∷ [] ≡ line ++ decimal n
number_digit line n small = ap (λ d. line ++ d) (sym (decimal_digit n small))

-- one piece more behind a line
piece_more : (line so_far all more : List ℕ) → all ≡ line ++ so_far → all ++ more ≡ line ++ (so_far ++ more)
piece_more line so_far all more e = ap (λ l. l ++ more) e ∙ append_assoc line so_far more

-- a sentence as the second line, piece by piece
pub sentence_pieces : (line words : List ℕ) (sentence : Sentence) → words ≡ sentence.words.now
    → line ++ codes "  " ++ words ++ clause_text sentence.first ++ clause_text sentence.second ++ clause_text sentence.third ++ clause_text sentence.fourth ++ codes "\n"
    ≡ line ++ sentence_line (sentence_text sentence)
unfolding sentence_text
sentence_pieces line words sentence e =
    piece_more line _ _ (codes "\n") (piece_more line _ _ (clause_text sentence.fourth) (piece_more line _ _ (clause_text sentence.third)
    (piece_more line _ _ (clause_text sentence.second) (piece_more line _ _ (clause_text sentence.first)
    (ap (λ w. line ++ codes "  " ++ w) e ∙ append_assoc line (codes "  ") sentence.words.now)))))

pub only_then : (a b c : HostState) → OnlySays a b → OnlySays b c → OnlySays a c
only_then a b c ab bc = record {
  names = λ name. same_then (a.holds name) (b.holds name) (c.holds name) (ab.names name) (bc.names name);
  written = same_then a.written b.written c.written ab.written bc.written;
  faults = bc.faults ∙ ab.faults;
  lacks = bc.lacks ∙ ab.lacks;
  blame = bc.blame ∙ ab.blame;
}

-- a line was said, whole or in part
pub said_line : {U E : Type 0} (r : Result U E) (line : List ℕ) (a b : HostState) → Said r line a b → SaidLine line a b
said_line (Ok u) line a b said = inl said.says.0
said_line (Err e) line a b said = inr said.says

-- a line that is said behind what was silent
pub line_after_silence : (line : List ℕ) (a b c : HostState) → Silent a b → SaidLine line b c → SaidLine line a c
line_after_silence line a b c silent (inl whole) = inl (same_then_step (Adds line) a.said b.said c.said silent.said whole)
line_after_silence line a b c silent (inr part) =
    inr (same_then_step (AddsPrefix line) a.said b.said c.said silent.said part.0, later_rose a.say_faults b.say_faults c.say_faults silent.later part.1)
