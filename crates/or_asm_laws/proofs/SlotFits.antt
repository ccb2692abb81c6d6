-- The operands that their places can show.
use Rattle.std.specs.Prelude.{ℕ, ◌^◌, ◌<◌, ℤ, pos, negsuc, List, [], ◌∷◌}
use Rattle.or_isa.specs.Fits.{IsSigned}
use Rattle.or_asm_text.specs.declared.operands.Operands.{Operands}
use Rattle.or_asm_text.specs.declared.operands.Slot.{Slot}
use Rattle.or_asm_text.specs.declared.operands.Slot.TheVariants.{D, A, B, Signed, Half, OptionalHalf, HighHalf, LowHalf, Shift, Page, Target, Memory}

abbrev pub IsNatural : ℕ → ℤ → Type 0
IsNatural bits (pos n) = n < 2 ^ bits
IsNatural bits (negsuc n) = ⊥

abbrev pub SlotFits : Slot → Operands → Type 0
SlotFits D o = o.d < 2 ^ 5
SlotFits A o = o.a < 2 ^ 5
SlotFits B o = o.b < 2 ^ 5
SlotFits Signed o = IsSigned 15 o.value
SlotFits Half o = IsNatural 16 o.value
SlotFits OptionalHalf o = IsNatural 16 o.value
SlotFits HighHalf o = IsNatural 16 o.value
SlotFits LowHalf o = IsNatural 16 o.value
SlotFits Shift o = IsNatural 6 o.value
SlotFits Page o = IsSigned 20 o.value
SlotFits Target o = IsSigned 25 o.value
SlotFits Memory o = (o.a < 2 ^ 5) × IsSigned 15 o.value

abbrev pub SlotsFit : List Slot → Operands → Type 0
SlotsFit [] o = Unit {0}
SlotsFit (slot ∷ slots) o = SlotFits slot o × SlotsFit slots o
