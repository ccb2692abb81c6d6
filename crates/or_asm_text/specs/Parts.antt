-- An instruction and its operands.
use Rattle.std.specs.Prelude.{ℕ, ℤ, pos, negsuc}
use Rattle.or_isa.specs.declared.Insn.{Insn}
use Rattle.or_isa.specs.declared.Insn.TheVariants as insn
use Rattle.or_asm_text.specs.declared.operands.Operands.{Operands}

abbrev pub operands_with : ℕ → ℕ → ℕ → ℤ → Operands
operands_with d a b value = record { d = d; a = a; b = b; value = value }

unfoldable pub operands_of : Insn → Operands
operands_of (insn.Jump link n) = operands_with 0 0 0 n
operands_of (insn.Branch on n) = operands_with 0 0 0 n
operands_of (insn.JumpRegister link b) = operands_with 0 0 b (pos 0)
operands_of (insn.PageAddress d n) = operands_with d 0 0 n
operands_of (insn.Nop k) = operands_with 0 0 0 (pos k)
operands_of (insn.SystemCall k) = operands_with 0 0 0 (pos k)
operands_of (insn.Trap k) = operands_with 0 0 0 (pos k)
operands_of (insn.MoveHigh d k) = operands_with d 0 0 (pos k)
operands_of (insn.TakeAccumulator d) = operands_with d 0 0 (pos 0)
operands_of (insn.Sync kind) = operands_with 0 0 0 (pos 0)
operands_of insn.ReturnFromException = operands_with 0 0 0 (pos 0)
operands_of (insn.Load width signed d a i) = operands_with d a 0 i
operands_of (insn.LoadLinked d a i) = operands_with d a 0 i
operands_of (insn.Store width a b i) = operands_with 0 a b i
operands_of (insn.StoreConditional a b i) = operands_with 0 a b i
operands_of (insn.ArithmeticImmediate kind d a i) = operands_with d a 0 i
operands_of (insn.AndImmediate d a k) = operands_with d a 0 (pos k)
operands_of (insn.OrImmediate d a k) = operands_with d a 0 (pos k)
operands_of (insn.MoveFromSpecial d a k) = operands_with d a 0 (pos k)
operands_of (insn.MoveToSpecial a b k) = operands_with 0 a b (pos k)
operands_of (insn.ShiftImmediate kind d a l) = operands_with d a 0 (pos l)
operands_of (insn.Shift kind d a b) = operands_with d a b (pos 0)
operands_of (insn.CompareImmediate code a i) = operands_with 0 a 0 i
operands_of (insn.Compare code a b) = operands_with 0 a b (pos 0)
operands_of (insn.AccumulateImmediate a i) = operands_with 0 a 0 i
operands_of (insn.Accumulate kind a b) = operands_with 0 a b (pos 0)
operands_of (insn.Arithmetic kind d a b) = operands_with d a b (pos 0)
operands_of (insn.Extend width signed d a) = operands_with d a 0 (pos 0)
operands_of (insn.FindFirst d a) = operands_with d a 0 (pos 0)
operands_of (insn.FindLast d a) = operands_with d a 0 (pos 0)

-- a number that is not negative, and 0 for one that is
abbrev pub natural : ℤ → ℕ
natural (pos n) = n
natural (negsuc n) = 0

-- the instruction with these operands in place of its own
unfoldable pub with_operands : Insn → Operands → Insn
with_operands (insn.Jump link n) o = insn.Jump link o.value
with_operands (insn.Branch on n) o = insn.Branch on o.value
with_operands (insn.JumpRegister link b) o = insn.JumpRegister link o.b
with_operands (insn.PageAddress d n) o = insn.PageAddress o.d o.value
with_operands (insn.Nop k) o = insn.Nop (natural o.value)
with_operands (insn.SystemCall k) o = insn.SystemCall (natural o.value)
with_operands (insn.Trap k) o = insn.Trap (natural o.value)
with_operands (insn.MoveHigh d k) o = insn.MoveHigh o.d (natural o.value)
with_operands (insn.TakeAccumulator d) o = insn.TakeAccumulator o.d
with_operands (insn.Sync kind) o = insn.Sync kind
with_operands insn.ReturnFromException o = insn.ReturnFromException
with_operands (insn.Load width signed d a i) o = insn.Load width signed o.d o.a o.value
with_operands (insn.LoadLinked d a i) o = insn.LoadLinked o.d o.a o.value
with_operands (insn.Store width a b i) o = insn.Store width o.a o.b o.value
with_operands (insn.StoreConditional a b i) o = insn.StoreConditional o.a o.b o.value
with_operands (insn.ArithmeticImmediate kind d a i) o = insn.ArithmeticImmediate kind o.d o.a o.value
with_operands (insn.AndImmediate d a k) o = insn.AndImmediate o.d o.a (natural o.value)
with_operands (insn.OrImmediate d a k) o = insn.OrImmediate o.d o.a (natural o.value)
with_operands (insn.MoveFromSpecial d a k) o = insn.MoveFromSpecial o.d o.a (natural o.value)
with_operands (insn.MoveToSpecial a b k) o = insn.MoveToSpecial o.a o.b (natural o.value)
with_operands (insn.ShiftImmediate kind d a l) o = insn.ShiftImmediate kind o.d o.a (natural o.value)
with_operands (insn.Shift kind d a b) o = insn.Shift kind o.d o.a o.b
with_operands (insn.CompareImmediate code a i) o = insn.CompareImmediate code o.a o.value
with_operands (insn.Compare code a b) o = insn.Compare code o.a o.b
with_operands (insn.AccumulateImmediate a i) o = insn.AccumulateImmediate o.a o.value
with_operands (insn.Accumulate kind a b) o = insn.Accumulate kind o.a o.b
with_operands (insn.Arithmetic kind d a b) o = insn.Arithmetic kind o.d o.a o.b
with_operands (insn.Extend width signed d a) o = insn.Extend width signed o.d o.a
with_operands (insn.FindFirst d a) o = insn.FindFirst o.d o.a
with_operands (insn.FindLast d a) o = insn.FindLast o.d o.a

-- without operands, which says which instruction of the table it is
unfoldable pub bare : Insn → Insn
bare i = with_operands i (operands_with 0 0 0 (pos 0))
