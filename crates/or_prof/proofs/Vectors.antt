-- Worked rows.
use Rattle.std.proofs.Common.{◌≡◌, ◌∷◌, [], refl, true, false, codes}
use Rattle.std.specs.Fmt.{digits}
use Rattle.std.specs.declared.cmp.Ordering.TheVariants.{Less, Greater}
use Rattle.or_text.specs.Hexadecimal.{word_text}
use Rattle.or_elf.specs.Symbols.{SymbolTable, innermost}
use Rattle.or_prof.specs.Profile.{spot_count}
use Rattle.or_prof.specs.Text.{rank, spot_text}

-- a function of eight bytes from 00000100 on
abbrev one_function : SymbolTable
one_function = record { functions = record { index = 1; name = 1; value = 0x100; size = 8 } ∷ []; objects = []; names = 0 ∷ 102 ∷ 0 ∷ [] }

-- a pc behind the function has its steps counted if that is asked for, and a pc of the function never has
asked : spot_count true one_function (0x104 ∷ 0x108 ∷ 0x10C ∷ 0x108 ∷ []) 0x108 ≡ 2
unfolding innermost
asked = refl

not_asked : spot_count false one_function (0x104 ∷ 0x108 ∷ 0x10C ∷ 0x108 ∷ []) 0x108 ≡ 0
not_asked = refl

in_a_function : spot_count true one_function (0x104 ∷ 0x108 ∷ 0x10C ∷ 0x108 ∷ []) 0x104 ≡ 0
unfolding innermost
in_a_function = refl

-- the greater count comes first, and of equal counts the lesser pc
by_count : rank (record { count = 3; key = 0x200 }) (record { count = 2; key = 0x100 }) ≡ Less
by_count = refl

by_pc : rank (record { count = 3; key = 0x200 }) (record { count = 3; key = 0x100 }) ≡ Greater
by_pc = refl

shown : spot_text (record { count = 12; key = 0x1F04 }) ≡ codes "12 ? 00001F04\n"
unfolding digits word_text
shown = refl
