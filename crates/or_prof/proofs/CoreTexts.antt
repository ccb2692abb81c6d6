-- The text of a core behind those before.
use Rattle.std.proofs.Common.{◌∙◌, ap, refl, sym, subst, ℕ, ◌+◌, Bool, List, ◌++◌, Option, append_assoc, add-one, length}
use mathlib.Core.Path.{fun_ext}
use Rattle.or_elf.specs.Symbols.{SymbolTable}
use Rattle.or_prof.specs.Tally.{Counts, count_in, spot_at}
use Rattle.or_prof.specs.Profile.{Addition, items_of, count_of, spot_count, AreCounts}
use Rattle.or_prof.specs.Text.{IsCoreText, AreCoreTexts, Appends}

-- what was counted is what the items are
core_is : (hot : Bool) (symbols : SymbolTable) (core : ℕ) (items : List ℕ) (counts : Counts) (text : List ℕ) → AreCounts hot symbols items counts
    → IsCoreText symbols core counts.steps (count_in counts) (spot_at counts.spots) text → IsCoreText symbols core (length items) (count_of symbols items) (spot_count hot symbols items) text
core_is hot symbols core items counts text are is =
    subst (λ (n : ℕ). IsCoreText symbols core n (count_of symbols items) (spot_count hot symbols items) text) are.steps
    (subst (λ (count : Option ℕ → ℕ). IsCoreText symbols core counts.steps count (spot_count hot symbols items) text) (fun_ext are.each)
    (subst (λ (at : ℕ → ℕ). IsCoreText symbols core counts.steps (count_in counts) at text) (fun_ext are.spots) is))

pub core_more : (hot : Bool) (symbols : SymbolTable) (additions : List Addition) (core : ℕ) (counts : Counts) (old middle new : List ℕ) → AreCounts hot symbols (items_of core additions) counts
    → Appends (AreCoreTexts hot symbols additions core) old middle → Appends (IsCoreText symbols core counts.steps (count_in counts) (spot_at counts.spots)) middle new
    → Appends (AreCoreTexts hot symbols additions (core + 1)) old new
core_more hot symbols additions core counts old middle new are before own =
    subst (λ (n : ℕ). Appends (AreCoreTexts hot symbols additions n) old new) (sym (add-one core)) (record {
      text = before.text ++ own.text;
      is_text = record {
        first = before.text;
        second = own.text;
        is_first = before.is_text;
        is_second = core_is hot symbols core (items_of core additions) counts own.text are own.is_text;
        is = refl;
      };
      appended = own.appended ∙ (ap (λ (l : List ℕ). l ++ own.text) before.appended ∙ append_assoc old before.text own.text);
    })
