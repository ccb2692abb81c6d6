-- The ranges of the operands.
use Rattle.std.specs.Prelude.{◌≡◌, ◌^◌, ◌<◌, ℤ, pos, List, [], ◌∷◌}
use Rattle.or_isa.specs.Fits.{IsSigned}
use Rattle.or_asm_text.specs.declared.operands.Operands.{Operands}
use Rattle.or_asm_text.specs.declared.operands.Slot.{Slot}
use Rattle.or_asm_text.specs.declared.operands.Slot.TheVariants.{D, A, B, Signed, Half, OptionalHalf, HighHalf, LowHalf, Shift, Page, Target, Memory}
use Rattle.or_asm_text.specs.Parts.{operands_with, natural}

pub record RegistersFit (o : Operands) : Type 0 where
  pub d : o.d < 2 ^ 5
  pub a : o.a < 2 ^ 5
  pub b : o.b < 2 ^ 5

-- z is in the range of the first place that is for a number
abbrev pub ValueFits : List Slot → ℤ → Type 0
ValueFits [] z = z ≡ pos 0
ValueFits (D ∷ slots) z = ValueFits slots z
ValueFits (A ∷ slots) z = ValueFits slots z
ValueFits (B ∷ slots) z = ValueFits slots z
ValueFits (Signed ∷ slots) z = IsSigned 15 z
ValueFits (Half ∷ slots) z = natural z < 2 ^ 16
ValueFits (OptionalHalf ∷ slots) z = natural z < 2 ^ 16
ValueFits (HighHalf ∷ slots) z = natural z < 2 ^ 16
ValueFits (LowHalf ∷ slots) z = natural z < 2 ^ 16
ValueFits (Shift ∷ slots) z = natural z < 2 ^ 6
ValueFits (Page ∷ slots) z = IsSigned 20 z
ValueFits (Target ∷ slots) z = IsSigned 25 z
ValueFits (Memory ∷ slots) z = IsSigned 15 z

-- the fields of o that a place shows, put over those of p
abbrev pub fill : Slot → Operands → Operands → Operands
fill D o p = operands_with o.d p.a p.b p.value
fill A o p = operands_with p.d o.a p.b p.value
fill B o p = operands_with p.d p.a o.b p.value
fill Memory o p = operands_with p.d o.a p.b o.value
fill Signed o p = operands_with p.d p.a p.b o.value
fill Half o p = operands_with p.d p.a p.b o.value
fill OptionalHalf o p = operands_with p.d p.a p.b o.value
fill HighHalf o p = operands_with p.d p.a p.b o.value
fill LowHalf o p = operands_with p.d p.a p.b o.value
fill Shift o p = operands_with p.d p.a p.b o.value
fill Page o p = operands_with p.d p.a p.b o.value
fill Target o p = operands_with p.d p.a p.b o.value

-- the fields that the places show
abbrev pub filled : List Slot → Operands → Operands
filled [] o = operands_with 0 0 0 (pos 0)
filled (slot ∷ slots) o = fill slot o (filled slots o)
