-- What stands among the operands of each instruction, in the order of a source.
use Rattle.std.specs.Prelude.{List, [], ◌∷◌}
use Rattle.or_isa.specs.declared.Insn.{Insn}
use Rattle.or_isa.specs.declared.Insn.TheVariants as insn
use Rattle.or_asm_text.specs.declared.operands.Slot.{Slot}
use Rattle.or_asm_text.specs.declared.operands.Slot.TheVariants as slot

unfoldable pub slots_of : Insn → List Slot
slots_of (insn.Jump link n) = slot.Target ∷ []
slots_of (insn.Branch on n) = slot.Target ∷ []
slots_of (insn.JumpRegister link b) = slot.B ∷ []
slots_of (insn.PageAddress d n) = slot.D ∷ slot.Page ∷ []
slots_of (insn.Nop k) = slot.OptionalHalf ∷ []
slots_of (insn.SystemCall k) = slot.Half ∷ []
slots_of (insn.Trap k) = slot.Half ∷ []
slots_of (insn.MoveHigh d k) = slot.D ∷ slot.HighHalf ∷ []
slots_of (insn.TakeAccumulator d) = slot.D ∷ []
slots_of (insn.Sync kind) = []
slots_of insn.ReturnFromException = []
slots_of (insn.Load width signed d a i) = slot.D ∷ slot.Memory ∷ []
slots_of (insn.LoadLinked d a i) = slot.D ∷ slot.Memory ∷ []
slots_of (insn.Store width a b i) = slot.Memory ∷ slot.B ∷ []
slots_of (insn.StoreConditional a b i) = slot.Memory ∷ slot.B ∷ []
slots_of (insn.ArithmeticImmediate kind d a i) = slot.D ∷ slot.A ∷ slot.Signed ∷ []
slots_of (insn.AndImmediate d a k) = slot.D ∷ slot.A ∷ slot.Half ∷ []
slots_of (insn.OrImmediate d a k) = slot.D ∷ slot.A ∷ slot.LowHalf ∷ []
slots_of (insn.MoveFromSpecial d a k) = slot.D ∷ slot.A ∷ slot.Half ∷ []
slots_of (insn.MoveToSpecial a b k) = slot.A ∷ slot.B ∷ slot.Half ∷ []
slots_of (insn.ShiftImmediate kind d a l) = slot.D ∷ slot.A ∷ slot.Shift ∷ []
slots_of (insn.Shift kind d a b) = slot.D ∷ slot.A ∷ slot.B ∷ []
slots_of (insn.CompareImmediate code a i) = slot.A ∷ slot.Signed ∷ []
slots_of (insn.Compare code a b) = slot.A ∷ slot.B ∷ []
slots_of (insn.AccumulateImmediate a i) = slot.A ∷ slot.Signed ∷ []
slots_of (insn.Accumulate kind a b) = slot.A ∷ slot.B ∷ []
slots_of (insn.Arithmetic kind d a b) = slot.D ∷ slot.A ∷ slot.B ∷ []
slots_of (insn.Extend width signed d a) = slot.D ∷ slot.A ∷ []
slots_of (insn.FindFirst d a) = slot.D ∷ slot.A ∷ []
slots_of (insn.FindLast d a) = slot.D ∷ slot.A ∷ []
