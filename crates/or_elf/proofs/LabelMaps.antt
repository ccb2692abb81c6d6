-- The functions that begin at an address, gathered one function after another.
use Rattle.std.proofs.Common.{◌≡◌, ◌≤◌, ℕ, refl, List, [], ◌∷◌, Option, Some, None, IfSome, if◌then◌else◌, length, ap, sym, ◌∙◌, arith, rules}
use Rattle.std.proofs.lemmas.Bool.Decides.{nat_tests}
use Rattle.std.proofs.lemmas.List.{nil_from_length}
use Rattle.or_elf.specs.declared.symbols.Symbol.{Symbol}
use Rattle.or_elf.specs.Symbols.{covers, later_start, innermost}
use Rattle.or_elf.specs.Labels.{if_begins}
use Rattle.or_elf.specs.Fault.{or_else}

-- a function of an address begins at it or below
abbrev IsBelow : ℕ → Option Symbol → Type 0
IsBelow pc found = IfSome found (λ (function : Symbol). function.value ≤ pc)

candidate : ℕ → Symbol → Option Symbol
candidate pc s = if covers pc 1 s then Some s else None

candidate_below : (pc : ℕ) (s : Symbol) → IsBelow pc (if covers pc 1 s then Some s else None)
candidate_below pc s = grind (arith, nat_tests)

later_below : (pc : ℕ) (a b : Option Symbol) → IsBelow pc a → IsBelow pc b → IsBelow pc (later_start a b)
later_below pc None b p q = q
later_below pc (Some a) None p q = p
later_below pc (Some a) (Some b) p q = grind (arith, nat_tests, p, q)

below : (pc : ℕ) (functions : List Symbol) → IsBelow pc (innermost functions pc 1)
unfolding innermost
below pc [] = search rules
below pc (s ∷ others) = later_below pc (if covers pc 1 s then Some s else None) (innermost others pc 1) (candidate_below pc s) (below pc others)

begins_later : (pc : ℕ) (a b : Option Symbol) → IsBelow pc a → IsBelow pc b → if_begins pc (later_start a b) ≡ or_else (if_begins pc a) (if_begins pc b)
begins_later pc None b p q = refl
begins_later pc (Some a) None p q = grind (arith, nat_tests)
begins_later pc (Some a) (Some b) p q = grind (arith, nat_tests, p, q)

begins_first : (pc : ℕ) (s : Symbol) (others : List Symbol)
    → if_begins pc (innermost (s ∷ others) pc 1) ≡ or_else (if_begins pc (if covers pc 1 s then Some s else None)) (if_begins pc (innermost others pc 1))
unfolding innermost
begins_first pc s others = begins_later pc (if covers pc 1 s then Some s else None) (innermost others pc 1) (candidate_below pc s) (below pc others)

or_else-assoc : {F : Type 0} (a b c : Option F) → or_else (or_else a b) c ≡ or_else a (or_else b c)
or_else-assoc None b c = refl
or_else-assoc (Some a) b c = refl

or_else-none : {F : Type 0} (a : Option F) → or_else a None ≡ a
or_else-none None = refl
or_else-none (Some a) = refl

-- one function more is gathered
pub gathered_next : (found : Option Symbol) (pc : ℕ) (rest : List Symbol) (s : Symbol) (others : List Symbol) → rest ≡ s ∷ others
    → or_else (or_else found (if_begins pc (if covers pc 1 s then Some s else None))) (if_begins pc (innermost others pc 1))
    ≡ or_else found (if_begins pc (innermost rest pc 1))
gathered_next found pc rest s others e =
    or_else-assoc found (if_begins pc (if covers pc 1 s then Some s else None)) (if_begins pc (innermost others pc 1))
    ∙ ap (or_else found) (sym (begins_first pc s others))
    ∙ ap (λ r. or_else found (if_begins pc (innermost r pc 1))) (sym e)

-- all are gathered
pub gathered_all : (found : Option Symbol) (pc : ℕ) (rest : List Symbol) → length rest ≡ 0
    → found ≡ or_else found (if_begins pc (innermost rest pc 1))
unfolding innermost
gathered_all found pc rest e = sym (or_else-none found) ∙ ap (λ r. or_else found (if_begins pc (innermost r pc 1))) (sym (nil_from_length rest e))
