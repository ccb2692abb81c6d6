-- What an instruction does that asks nothing of the bus: the core behind it, or the exception that it meets
-- (OpenRISC 1000 Architecture Manual, chapter 5, ORBIS32).
use Rattle.std.specs.Prelude.{ℕ, ◌+◌, ◌-◌, ◌*◌, ◌/◌, ◌%◌, ◌^◌, Bool, true, false, not, ◌==◌, ◌&&◌, if◌then◌else◌, Some, Result, Ok, Err, bit_and, bit_or, bit_xor, ℤ, pos, ◌-ℤ◌, ◌*ℤ◌}
use Rattle.std.specs.Int.{cast_unsigned, w32}
use Rattle.or_isa.specs.declared.Insn.{Insn}
use Rattle.or_isa.specs.declared.Insn.TheVariants.{Jump, Branch, JumpRegister, PageAddress, Nop, SystemCall, Trap, MoveHigh, TakeAccumulator, Sync, ReturnFromException, Load, LoadLinked, Store, StoreConditional, ArithmeticImmediate, AndImmediate, OrImmediate, MoveFromSpecial, MoveToSpecial, ShiftImmediate, Shift, CompareImmediate, Compare, AccumulateImmediate, Accumulate, Arithmetic, Extend, FindFirst, FindLast}
use Rattle.or_isa.specs.declared.ArithmeticKind.{ArithmeticKind}
use Rattle.or_isa.specs.declared.ArithmeticKind.TheVariants as arithmetic
use Rattle.or_isa.specs.declared.ImmediateKind.{ImmediateKind}
use Rattle.or_isa.specs.declared.ImmediateKind.TheVariants as immediate_kind
use Rattle.or_words.specs.declared.Width.{Width}
use Rattle.or_words.specs.declared.Width.TheVariants.{Byte, Half, Word}
use Rattle.or_words.specs.declared.ShiftKind.{ShiftKind}
use Rattle.or_words.specs.declared.ExtendKind.{ExtendKind}
use Rattle.or_words.specs.declared.ExtendKind.TheVariants.{HalfSigned, ByteSigned, HalfZero, ByteZero, Whole}
use Rattle.or_words.specs.declared.CompareCode.{CompareCode}
use Rattle.or_words.specs.declared.CompareCode.TheVariants.{Ltu}
use Rattle.or_words.specs.declared.MacKind.{MacKind}
use Rattle.or_words.specs.declared.MacKind.TheVariants.{Plus}
use Rattle.or_words.specs.Word.{signed, word_of, remainder, exceeds_unsigned, exceeds_signed, unsigned_sum, signed_sum, signed_quotient, quotient_overflows, unsigned_quotient, lowest_one, highest_one}
use Rattle.or_words.specs.Kind.{shifted, extended, compares, accumulated}
use Rattle.or_parts.specs.declared.Cause.{Cause}
use Rattle.or_parts.specs.declared.Cause.TheVariants.{Range, Syscall, Illegal, Trap as TrapCause}
use Rattle.or_parts.specs.declared.status.TheConstants.{F, CY, OV, OVE}
use Rattle.or_parts.specs.Bits.{has, with_bits, plus, immediate}
use Rattle.or_model.specs.declared.Stop.TheVariants.{Exit}
use Rattle.or_model.specs.Core.{Core, register, set_register, next_instruction, branched, exception_return}
use Rattle.or_model.specs.SpecialAccess.{special, special_written}

-- a value goes to register d
unfoldable pub put : Core → ℕ → ℕ → Core
put core d v = next_instruction (set_register core d v)

-- the flags of SR: F, CY and OV
abbrev pub flag : Core → Bool
flag core = has core.sr F

abbrev pub carry : Core → Bool
carry core = has core.sr CY

abbrev pub with_carry : Core → Bool → Core
with_carry core cy = record core { sr = with_bits core.sr CY cy }

abbrev pub with_overflow : Core → Bool → Core
with_overflow core ov = record core { sr = with_bits core.sr OV ov }

-- an overflow is a range exception where OVE asks for it, and then nothing is written
abbrev pub unless_overflow : Core → Bool → Core → Result Core Cause
unless_overflow core ov next = if ov && has core.sr OVE then Err Range else Ok next

-- a result with CY and OV, with OV alone, and with CY alone
unfoldable pub put_with_flags : Core → ℕ → ℕ → Bool → Bool → Result Core Cause
put_with_flags core d v cy ov = unless_overflow core ov (put (with_overflow (with_carry core cy) ov) d v)

unfoldable pub put_with_overflow : Core → ℕ → ℕ → Bool → Result Core Cause
put_with_overflow core d v ov = unless_overflow core ov (put (with_overflow core ov) d v)

unfoldable pub put_with_carry : Core → ℕ → ℕ → Bool → Core
put_with_carry core d v cy = put (with_carry core cy) d v

unfoldable pub put_sum : Core → ℕ → ℕ → ℕ → Bool → Result Core Cause
put_sum core d a b c = put_with_flags core d (unsigned_sum a b c % 2 ^ 32) (exceeds_unsigned (unsigned_sum a b c)) (exceeds_signed (signed_sum a b c))

unfoldable pub put_difference : Core → ℕ → ℕ → ℕ → Result Core Cause
put_difference core d a b = put_with_flags core d ((a + 2 ^ 32 - b) % 2 ^ 32) (compares Ltu a b) (exceeds_signed (signed a -ℤ signed b))

unfoldable pub put_product : Core → ℕ → ℕ → ℕ → Result Core Cause
put_product core d a b = put_with_overflow core d (a * b % 2 ^ 32) (exceeds_signed (signed a *ℤ signed b))

unfoldable pub put_quotient : Core → ℕ → ℕ → ℕ → Result Core Cause
put_quotient core d a b = put_with_overflow core d (signed_quotient a b) (quotient_overflows a b)

unfoldable pub put_unsigned_quotient : Core → ℕ → ℕ → ℕ → Core
put_unsigned_quotient core d a b = put_with_carry core d (unsigned_quotient a b) (b == 0)

unfoldable pub put_unsigned_product : Core → ℕ → ℕ → ℕ → Core
put_unsigned_product core d a b = put_with_carry core d (a * b % 2 ^ 32) (exceeds_unsigned (a * b))

unfoldable pub put_shifted : Core → ℕ → ShiftKind → ℕ → ℕ → Core
put_shifted core d kind a n = put core d (shifted kind a n)

unfoldable pub put_extended : Core → ℕ → ExtendKind → ℕ → Core
put_extended core d kind a = put core d (extended kind a)

-- the place of the lowest and of the highest one bit
unfoldable pub put_lowest_one : Core → ℕ → ℕ → Core
put_lowest_one core d a = put core d (lowest_one a)

unfoldable pub put_highest_one : Core → ℕ → ℕ → Core
put_highest_one core d a = put core d (highest_one a)

-- one of two words, by the flag F
unfoldable pub put_chosen : Core → ℕ → ℕ → ℕ → Core
put_chosen core d a b = put core d (if flag core then a else b)

-- the flag F
unfoldable pub put_flag : Core → Bool → Core
put_flag core f = next_instruction (record core { sr = with_bits core.sr F f })

unfoldable pub put_comparison : Core → CompareCode → ℕ → ℕ → Core
put_comparison core code a b = put_flag core (compares code a b)

-- the accumulator MACHI:MACLO after an operation on it, modulo 2 ^ 64
abbrev pub accumulator : Core → MacKind → ℕ → ℕ → ℕ
accumulator core kind a b = remainder (accumulated kind (core.machi * 2 ^ 32 + core.maclo) a b) (2 ^ 64)

unfoldable pub put_accumulator : Core → MacKind → ℕ → ℕ → Core
put_accumulator core kind a b =
    next_instruction (record core { machi = accumulator core kind a b / 2 ^ 32; maclo = accumulator core kind a b % 2 ^ 32 })

-- l.macrc gives the low half and clears both
unfoldable pub accumulator_read : Core → ℕ → Core
accumulator_read core d = put (record core { machi = 0; maclo = 0 }) d core.maclo

-- the destination of a jump by so many words
unfoldable pub destination : Core → ℤ → ℕ
destination core n = plus core.pc (cast_unsigned w32 (n *ℤ pos 4))

-- a branch sets its delay slot's destination whether it is taken or not
unfoldable pub branched_where : Core → Bool → ℤ → Core
branched_where core taken n = branched core (if taken then destination core n else plus core.pc 8)

-- a call puts the address behind its delay slot into r9
unfoldable pub called : Core → ℕ → Core
called core to = branched (set_register core 9 (plus core.pc 8)) to

-- a jump, which is a call where it sets the link register
unfoldable pub jumped : Core → Bool → ℕ → Core
jumped core link to = if link then called core to else branched core to

-- l.bf branches where the flag F is set, and l.bnf where it is not
unfoldable pub branched_on : Core → Bool → ℤ → Core
branched_on core on n = branched_where core (if on then flag core else not (flag core)) n

-- a page's address, by pages from that of pc
unfoldable pub page_address : Core → ℤ → ℕ
page_address core n = plus (core.pc - core.pc % 8192) (word_of (n *ℤ pos 8192))

-- l.nop 1 stops the core with r3
unfoldable pub after_nop : Core → ℕ → Core
after_nop core k = if k == 1 then record core { stop = Some (Exit (register core 3)) } else core

-- how the value of a load or of an extension fills a word
abbrev pub extension : Width → Bool → ExtendKind
extension Byte true = ByteSigned
extension Byte false = ByteZero
extension Half true = HalfSigned
extension Half false = HalfZero
extension Word _ = Whole

-- an operation on two words, and its flags
unfoldable pub put_arithmetic : Core → ArithmeticKind → ℕ → ℕ → ℕ → Result Core Cause
put_arithmetic core arithmetic.Add d a b = put_sum core d a b false
put_arithmetic core arithmetic.AddWithCarry d a b = put_sum core d a b (carry core)
put_arithmetic core arithmetic.Subtract d a b = put_difference core d a b
put_arithmetic core arithmetic.And d a b = Ok (put core d (bit_and a b))
put_arithmetic core arithmetic.Or d a b = Ok (put core d (bit_or a b))
put_arithmetic core arithmetic.Xor d a b = Ok (put core d (bit_xor a b))
put_arithmetic core arithmetic.Choose d a b = Ok (put_chosen core d a b)
put_arithmetic core arithmetic.Multiply d a b = put_product core d a b
put_arithmetic core arithmetic.Divide d a b = put_quotient core d a b
put_arithmetic core arithmetic.DivideUnsigned d a b = Ok (put_unsigned_quotient core d a b)
put_arithmetic core arithmetic.MultiplyUnsigned d a b = Ok (put_unsigned_product core d a b)

-- the operation on registers that does the same
abbrev pub on_registers : ImmediateKind → ArithmeticKind
on_registers immediate_kind.Add = arithmetic.Add
on_registers immediate_kind.AddWithCarry = arithmetic.AddWithCarry
on_registers immediate_kind.Xor = arithmetic.Xor
on_registers immediate_kind.Multiply = arithmetic.Multiply

-- one instruction; those that ask the bus have no place here
unfoldable pub executed : Insn → Core → Result Core Cause
executed (Jump link n) core = Ok (jumped core link (destination core n))
executed (Branch on n) core = Ok (branched_on core on n)
executed (JumpRegister link b) core = Ok (jumped core link (register core b))
executed (PageAddress d n) core = Ok (put core d (page_address core n))
executed (Nop k) core = Ok (next_instruction (after_nop core k))
executed (SystemCall k) core = Err Syscall
executed (Trap k) core = Err TrapCause
executed (MoveHigh d k) core = Ok (put core d (k * 65536))
executed (TakeAccumulator d) core = Ok (accumulator_read core d)
executed (Sync kind) core = Ok (next_instruction core)
executed ReturnFromException core = Ok (exception_return core)
executed (ArithmeticImmediate kind d a i) core = put_arithmetic core (on_registers kind) d (register core a) (immediate i)
executed (AndImmediate d a k) core = Ok (put core d (bit_and (register core a) k))
executed (OrImmediate d a k) core = Ok (put core d (bit_or (register core a) k))
executed (MoveFromSpecial d a k) core = Ok (put core d (special core (bit_or (register core a) k)))
executed (MoveToSpecial a b k) core = Ok (next_instruction (special_written core (bit_or (register core a) k) (register core b)))
executed (ShiftImmediate kind d a l) core = Ok (put_shifted core d kind (register core a) l)
executed (Shift kind d a b) core = Ok (put_shifted core d kind (register core a) (register core b))
executed (CompareImmediate code a i) core = Ok (put_comparison core code (register core a) (immediate i))
executed (Compare code a b) core = Ok (put_comparison core code (register core a) (register core b))
executed (AccumulateImmediate a i) core = Ok (put_accumulator core Plus (register core a) (immediate i))
executed (Accumulate kind a b) core = Ok (put_accumulator core kind (register core a) (register core b))
executed (Arithmetic kind d a b) core = put_arithmetic core kind d (register core a) (register core b)
executed (Extend width sign d a) core = Ok (put_extended core d (extension width sign) (register core a))
executed (FindFirst d a) core = Ok (put_lowest_one core d (register core a))
executed (FindLast d a) core = Ok (put_highest_one core d (register core a))
executed (Load width sign d a i) core = Err Illegal
executed (LoadLinked d a i) core = Err Illegal
executed (Store width a b i) core = Err Illegal
executed (StoreConditional a b i) core = Err Illegal
