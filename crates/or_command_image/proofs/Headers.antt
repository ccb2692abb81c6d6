-- An image without a fault has a whole header.
use Rattle.std.proofs.Common.{◌≡◌, ℕ, ◌≤◌, List, Option, Some, None, cond, Bool, true, false, length, refl, arith}
use Rattle.std.proofs.lemmas.Bool.Decides.{nat_tests}
use Rattle.std.specs.Prelude.{nat_lt}
use Rattle.or_elf.specs.declared.fault.ElfFault.{ElfFault}
use Rattle.or_elf.specs.Fault.{or_else, length_fault, elf_fault}

none_first : (first next : Option ElfFault) → or_else first next ≡ None → first ≡ None
none_first None next is = refl
none_first (Some fault) next is = absurd (let b : ⊥ = cc in b)

not_short : (b : Bool) (fault : ElfFault) → cond b (Some fault) None ≡ None → b ≡ false
not_short true fault is = absurd (let b : ⊥ = cc in b)
not_short false fault is = refl

at_least : (n : ℕ) → nat_lt n 52 ≡ false → 52 ≤ n
at_least n is = grind (arith, nat_tests)

pub sound_is_long : (bytes : List ℕ) (ram : ℕ) → elf_fault bytes ram ≡ None → 52 ≤ length bytes
unfolding elf_fault
sound_is_long bytes ram is = at_least (length bytes) (not_short (nat_lt (length bytes) 52) _ (none_first (length_fault bytes) _ is))
