-- An instruction as its name and its operands.
use Rattle.std.proofs.Common.{◌≡◌, refl, pos, rules, arith}
use Rattle.or_isa.specs.declared.Insn.{Insn}
use Rattle.or_isa.specs.declared.Insn.TheVariants as insn
use Rattle.or_isa.specs.Fits.{Fits}
use Rattle.or_asm_text.specs.declared.operands.Operands.{Operands}
use Rattle.or_asm_text.specs.Parts.{operands_with, operands_of, with_operands, bare}
use Rattle.or_asm_text.specs.Slots.{slots_of}
use Rattle.or_asm_text.specs.Ranges.{RegistersFit, ValueFits, filled}

pub whole : (i : Insn) → with_operands (bare i) (operands_of i) ≡ i
unfolding operands_of with_operands bare
whole (insn.Jump link n) = refl
whole _ = refl

-- what is the same without operands
pub bare_with : (i : Insn) (o : Operands) → with_operands (bare i) o ≡ with_operands i o
unfolding with_operands bare
bare_with (insn.Jump link n) o = refl
bare_with _ o = refl

pub bare_slots : (i : Insn) → slots_of (bare i) ≡ slots_of i
unfolding slots_of with_operands bare
bare_slots (insn.Jump link n) = refl
bare_slots _ = refl

pub all_filled : (i : Insn) → filled (slots_of i) (operands_of i) ≡ operands_of i
unfolding operands_of slots_of
all_filled (insn.Jump link n) = refl
all_filled _ = refl

pub fits : (i : Insn) (o : Operands) → RegistersFit o → ValueFits (slots_of i) o.value → Fits (with_operands i o)
unfolding slots_of with_operands
fits (insn.Jump link n) o registers value = value
fits (insn.Sync kind) o registers value = tt
fits insn.ReturnFromException o registers value = tt
fits _ o registers value = assumption

zero_fits : (i : Insn) → ValueFits (slots_of i) (pos 0)
unfolding slots_of
zero_fits (insn.Jump link n) = omega arith
zero_fits _ = search (rules, arith)

pub bare_fits : (i : Insn) → Fits (bare i)
unfolding bare
bare_fits i = fits i (operands_with 0 0 0 (pos 0)) (record { d = omega arith; a = omega arith; b = omega arith }) (zero_fits i)

pub registers_fit : (i : Insn) → Fits i → RegistersFit (operands_of i)
unfolding operands_of
registers_fit (insn.Jump link n) fit = record { d = omega arith; a = omega arith; b = omega arith }
registers_fit _ fit = record { d = omega arith; a = omega arith; b = omega arith }

pub value_fits : (i : Insn) → Fits i → ValueFits (slots_of i) (operands_of i).value
unfolding slots_of operands_of
value_fits (insn.Jump link n) fit = fit
value_fits _ fit = search rules
