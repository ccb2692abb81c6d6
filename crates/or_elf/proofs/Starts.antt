-- The symbol that starts last, found one symbol after another.
use Rattle.std.proofs.Common.{◌≡◌, refl, Option, Some, None, arith}
use Rattle.std.proofs.lemmas.Bool.Decides.{nat_tests}
use Rattle.or_elf.specs.declared.symbols.Symbol.{Symbol}
use Rattle.or_elf.specs.Symbols.{later_start}

pub later_start-none : (first : Option Symbol) → later_start first None ≡ first
later_start-none None = refl
later_start-none (Some first) = refl

-- of three that start later one after the other, and the like
three : (a b c : Symbol) → later_start (later_start (Some a) (Some b)) (Some c) ≡ later_start (Some a) (later_start (Some b) (Some c))
three a b c = grind (arith, nat_tests)

pub later_start-assoc : (first second third : Option Symbol)
    → later_start (later_start first second) third ≡ later_start first (later_start second third)
later_start-assoc None second third = refl
later_start-assoc (Some a) None third = refl
later_start-assoc (Some a) (Some b) None = later_start-none (later_start (Some a) (Some b))
later_start-assoc (Some a) (Some b) (Some c) = three a b c

pub ruleset later_start_rules = (later_start-none, later_start-assoc)
