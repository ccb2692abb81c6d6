-- Addresses that lie in the same functions.
use Rattle.std.proofs.Common.{◌≡◌, ◌∙◌, ℕ, zero, suc, ◌<◌, Bool, cond, List, [], ◌∷◌, Option, Some, None, inl, inr, length, refl, sym, ap, subst, arith}
use Rattle.std.specs.Prelude.{slice_get, slice_set}
use Rattle.or_elf.specs.declared.symbols.Symbol.{Symbol as Function}
use Rattle.or_elf.specs.Symbols.{SymbolTable, covers, later_start, innermost, function_of}
use Rattle.or_prof.specs.declared.finding.Found.{Found}
use Rattle.or_prof.specs.Cache.{IsCache}
use Rattle.or_prof.proofs.Gets.{nat_cases, get-inside, get-set_same, get-set_other}

-- one function more in which both lie, or neither
pub same_innermost : (function : Function) (others : List Function) (p pc : ℕ) → covers p 1 function ≡ covers pc 1 function
    → innermost others p 1 ≡ innermost others pc 1 → innermost (function ∷ others) p 1 ≡ innermost (function ∷ others) pc 1
unfolding innermost
same_innermost function others p pc covered same =
    ap (λ (b : Bool). later_start (cond b (Some function) None) (innermost others p 1)) covered
    ∙ ap (λ (o : Option Function). later_start (cond (covers pc 1 function) (Some function) None) o) same

pub ruleset spans = (same_innermost)

length-set : (found : List Found) (k : ℕ) (new : Found) → length (slice_set found k new) ≡ length found
length-set [] k new = refl
length-set (x ∷ xs) zero new = refl
length-set (x ∷ xs) (suc k) new = ap suc (length-set xs k new)

-- a right answer at any place
pub right_answer : (symbols : SymbolTable) (found : List Found) (k : ℕ) (new : Found) → k < 262144 → new.function ≡ function_of symbols new.pc
    → IsCache symbols found → IsCache symbols (slice_set found k new)
right_answer symbols found k new inside right cache = record {
  long = length-set found k new ∙ cache.long;
  right = λ other entry at. elim (nat_cases other k) [
    | inl same ↦
        let old = get-inside found k (omega (arith, inside, cache.long)) in
        let is : new ≡ entry = get-set_same found k old.0 new entry old.1 (subst (λ (n : ℕ). slice_get (slice_set found k new) n ≡ Some entry) same at) in
        subst (λ (e : Found). e.function ≡ function_of symbols e.pc) is right
    | inr differ ↦ cache.right other entry (sym (get-set_other found k other new differ) ∙ at)
  ];
}

pub ruleset kept_answers = (right_answer)

pub none_left : (functions : List Function) → length functions ≡ 0 → functions ≡ []
none_left [] none = refl
none_left (function ∷ others) none = absurd (omega arith)
