-- A plain instruction leaves a quiet core quiet.
use Rattle.std.proofs.Common.{◌≡◌, ℕ, ◌-◌, ◌/◌, Bool, true, false, cond, refl, ap, sym, ◌∙◌, rules}
use Rattle.std.specs.Prelude.{Some, Ok, Err, IfOk, slice_set, ◌==◌, ℤ, not, ◌&&◌, bit_and}
use Rattle.std.proofs.lemmas.Nat.{and_or_apart, and_assoc}
use Rattle.or_words.specs.declared.ShiftKind.{ShiftKind}
use Rattle.or_words.specs.declared.ExtendKind.{ExtendKind}
use Rattle.or_words.specs.declared.CompareCode.{CompareCode}
use Rattle.or_words.specs.declared.MacKind.{MacKind}
use Rattle.or_isa.specs.declared.Insn.{Insn}
use Rattle.or_isa.specs.declared.Insn.TheVariants.{Jump, Branch, JumpRegister, PageAddress, Nop, SystemCall, Trap, MoveHigh, TakeAccumulator, Sync, ReturnFromException, Load, LoadLinked, Store, StoreConditional, ArithmeticImmediate, AndImmediate, OrImmediate, MoveFromSpecial, MoveToSpecial, ShiftImmediate, Shift, CompareImmediate, Compare, AccumulateImmediate, Accumulate, Arithmetic, Extend, FindFirst, FindLast}
use Rattle.or_isa.specs.declared.ArithmeticKind.{ArithmeticKind}
use Rattle.or_isa.specs.declared.ArithmeticKind.TheVariants as arithmetic
use Rattle.or_parts.specs.declared.Cause.TheVariants.{Range}
use Rattle.or_parts.specs.declared.status.TheConstants.{TEE, IEE, ICE, IME, F, CY, OV}
use Rattle.or_parts.specs.Bits.{has, with_bits}
use Rattle.or_parts.specs.Timer.{is_tick_pending}
use Rattle.or_parts.specs.Interrupts.{is_pic_pending}
use Rattle.or_model.specs.declared.Stop.TheVariants.{Exit}
use Rattle.or_model.specs.Core.{Core, register, set_register, next_instruction, branched}
use Rattle.or_model.specs.Execute.{put, with_carry, put_with_flags, put_with_overflow, put_with_carry, put_sum, put_difference, put_product, put_quotient, put_unsigned_quotient, put_unsigned_product, put_shifted, put_extended, put_lowest_one, put_highest_one, put_chosen, put_flag, put_comparison, put_accumulator, accumulator_read, branched_where, called, jumped, branched_on, after_nop, put_arithmetic, executed}
use Rattle.or_core.specs.Quiet.{IsQuiet, SameControl, is_plain}

SameControl-trans : {old middle new : Core} → SameControl old middle → SameControl middle new → SameControl old new
SameControl-trans first second = record {
  ttmr = second.ttmr ∙ first.ttmr;
  picmr = second.picmr ∙ first.picmr;
  picsr = second.picsr ∙ first.picsr;
  status = second.status ∙ first.status;
  stop = second.stop ∙ first.stop;
}

set_register-control : (core : Core) (n v : ℕ) → SameControl core (set_register core n v)
set_register-control core n v =
    elim (n == 0) as (λ b. SameControl core (cond b core (record core { registers = slice_set core.registers n v })))
    [ true ↦ record { ttmr = refl; picmr = refl; picsr = refl; status = refl; stop = refl } | false ↦ record { ttmr = refl; picmr = refl; picsr = refl; status = refl; stop = refl } ]

next_instruction-control : (core : Core) → SameControl core (next_instruction core)
unfolding next_instruction
next_instruction-control core = record { ttmr = refl; picmr = refl; picsr = refl; status = refl; stop = refl }

branched-control : (core : Core) (to : ℕ) → SameControl core (branched core to)
unfolding branched
branched-control core to = record { ttmr = refl; picmr = refl; picsr = refl; status = refl; stop = refl }

put-control : (core : Core) (d v : ℕ) → SameControl core (put core d v)
unfolding put
put-control core d v = SameControl-trans (set_register-control core d v) (next_instruction-control _)

-- F, CY and OV are other bits of SR
other_bits : (sr mask : ℕ) (on : Bool) → bit_and mask 0x56 ≡ 0 → bit_and (0xFFFFFFFF - mask) 0x56 ≡ 0x56 → bit_and (with_bits sr mask on) 0x56 ≡ bit_and sr 0x56
other_bits sr mask true apart rest = and_or_apart 0x56 sr mask apart
other_bits sr mask false apart rest = and_assoc 0x56 sr (0xFFFFFFFF - mask) ∙ ap (bit_and sr) rest

with_status-control : (core : Core) (mask : ℕ) (on : Bool) → bit_and mask 0x56 ≡ 0 → bit_and (0xFFFFFFFF - mask) 0x56 ≡ 0x56 → SameControl core (record core { sr = with_bits core.sr mask on })
with_status-control core mask on apart rest = record { ttmr = refl; picmr = refl; picsr = refl; status = other_bits core.sr mask on apart rest; stop = refl }

unless_overflow-control : (core next : Core) (raises : Bool) → SameControl core next → IfOk (cond raises (Err Range) (Ok next)) (SameControl core)
unless_overflow-control core next raises same =
    elim raises as (λ b. IfOk (cond b (Err Range) (Ok next)) (SameControl core)) [ true ↦ tt | false ↦ same ]

put_with_flags-control : (core : Core) (d v : ℕ) (cy ov : Bool) → IfOk (put_with_flags core d v cy ov) (SameControl core)
unfolding put_with_flags
put_with_flags-control core d v cy ov =
    unless_overflow-control core _ _ (SameControl-trans (with_status-control core CY cy refl refl) (SameControl-trans (with_status-control (with_carry core cy) OV ov refl refl) (put-control _ d v)))

put_with_overflow-control : (core : Core) (d v : ℕ) (ov : Bool) → IfOk (put_with_overflow core d v ov) (SameControl core)
unfolding put_with_overflow
put_with_overflow-control core d v ov = unless_overflow-control core _ _ (SameControl-trans (with_status-control core OV ov refl refl) (put-control _ d v))

put_with_carry-control : (core : Core) (d v : ℕ) (cy : Bool) → SameControl core (put_with_carry core d v cy)
unfolding put_with_carry
put_with_carry-control core d v cy = SameControl-trans (with_status-control core CY cy refl refl) (put-control _ d v)

put_shifted-control : (core : Core) (d : ℕ) (kind : ShiftKind) (a n : ℕ) → SameControl core (put_shifted core d kind a n)
unfolding put_shifted
put_shifted-control core d kind a n = put-control core d _

put_extended-control : (core : Core) (d : ℕ) (kind : ExtendKind) (a : ℕ) → SameControl core (put_extended core d kind a)
unfolding put_extended
put_extended-control core d kind a = put-control core d _

put_lowest_one-control : (core : Core) (d a : ℕ) → SameControl core (put_lowest_one core d a)
unfolding put_lowest_one
put_lowest_one-control core d a = put-control core d _

put_highest_one-control : (core : Core) (d a : ℕ) → SameControl core (put_highest_one core d a)
unfolding put_highest_one
put_highest_one-control core d a = put-control core d _

put_comparison-control : (core : Core) (code : CompareCode) (a b : ℕ) → SameControl core (put_comparison core code a b)
unfolding put_comparison put_flag
put_comparison-control core code a b = SameControl-trans (with_status-control core F _ refl refl) (next_instruction-control _)

with_accumulator-control : (core : Core) (hi lo : ℕ) → SameControl core (record core { machi = hi; maclo = lo })
with_accumulator-control core hi lo = record { ttmr = refl; picmr = refl; picsr = refl; status = refl; stop = refl }

put_accumulator-control : (core : Core) (kind : MacKind) (a b : ℕ) → SameControl core (put_accumulator core kind a b)
unfolding put_accumulator
put_accumulator-control core kind a b = SameControl-trans (with_accumulator-control core _ _) (next_instruction-control _)

accumulator_read-control : (core : Core) (d : ℕ) → SameControl core (accumulator_read core d)
unfolding accumulator_read
accumulator_read-control core d = SameControl-trans (with_accumulator-control core 0 0) (put-control _ d _)

branched_where-control : (core : Core) (taken : Bool) (n : ℤ) → SameControl core (branched_where core taken n)
unfolding branched_where
branched_where-control core taken n = branched-control core _

called-control : (core : Core) (to : ℕ) → SameControl core (called core to)
unfolding called
called-control core to = SameControl-trans (set_register-control core 9 _) (branched-control _ to)

after_nop-control : (core : Core) (k : ℕ) → not (k == 1) ≡ true → SameControl core (next_instruction (after_nop core k))
unfolding after_nop
after_nop-control core k other = by_number (k == 1) refl
  where
    by_number : (one : Bool) → (k == 1) ≡ one → SameControl core (next_instruction (cond (k == 1) (record core { stop = Some (Exit (register core 3)) }) core))
    by_number true is = absurd (search (rules, is))
    by_number false is = rw is (next_instruction-control core)

jumped-control : (core : Core) (link : Bool) (to : ℕ) → SameControl core (jumped core link to)
unfolding jumped
jumped-control core true to = called-control core to
jumped-control core false to = branched-control core to

branched_on-control : (core : Core) (on : Bool) (n : ℤ) → SameControl core (branched_on core on n)
unfolding branched_on
branched_on-control core on n = branched_where-control core _ n

ruleset forms = (put_with_flags-control, put_with_overflow-control, put_with_carry-control, put-control)

-- each operation of the group writes its result in one of these forms; with a clause for one of them the other stands for each of the rest
put_arithmetic-control : (core : Core) (kind : ArithmeticKind) (d a b : ℕ) → IfOk (put_arithmetic core kind d a b) (SameControl core)
unfolding put_arithmetic put_sum put_difference put_product put_quotient put_chosen put_unsigned_quotient put_unsigned_product
put_arithmetic-control core arithmetic.Add d a b = search forms
put_arithmetic-control core _ d a b = search forms

-- whatever a plain instruction makes of a core
pub executed-control : (insn : Insn) (core : Core) → is_plain insn ≡ true → IfOk (executed insn core) (SameControl core)
unfolding executed
executed-control (Jump link n) core plain = jumped-control core link _
executed-control (Branch on n) core plain = branched_on-control core on n
executed-control (JumpRegister link b) core plain = jumped-control core link _
executed-control (PageAddress d n) core plain = put-control core _ _
executed-control (Nop k) core plain = after_nop-control core k plain
executed-control (SystemCall k) core plain = tt
executed-control (Trap k) core plain = tt
executed-control (MoveHigh d k) core plain = put-control core _ _
executed-control (TakeAccumulator d) core plain = accumulator_read-control core _
executed-control (Sync kind) core plain = next_instruction-control core
executed-control ReturnFromException core plain = absurd (search rules)
executed-control (ArithmeticImmediate kind d a i) core plain = put_arithmetic-control core _ d _ _
executed-control (AndImmediate d a k) core plain = put-control core _ _
executed-control (OrImmediate d a k) core plain = put-control core _ _
executed-control (MoveFromSpecial d a k) core plain = put-control core _ _
executed-control (MoveToSpecial a b k) core plain = absurd (search rules)
executed-control (ShiftImmediate kind d a l) core plain = put_shifted-control core _ _ _ _
executed-control (Shift kind d a b) core plain = put_shifted-control core _ _ _ _
executed-control (CompareImmediate code a i) core plain = put_comparison-control core _ _ _
executed-control (Compare code a b) core plain = put_comparison-control core _ _ _
executed-control (AccumulateImmediate a i) core plain = put_accumulator-control core _ _ _
executed-control (Accumulate kind a b) core plain = put_accumulator-control core _ _ _
executed-control (Arithmetic kind d a b) core plain = put_arithmetic-control core kind d _ _
executed-control (Extend width sign d a) core plain = put_extended-control core _ _ _
executed-control (FindFirst d a) core plain = put_lowest_one-control core _ _
executed-control (FindLast d a) core plain = put_highest_one-control core _ _
executed-control (Load width sign d a i) core plain = tt
executed-control (LoadLinked d a i) core plain = tt
executed-control (Store width a b i) core plain = tt
executed-control (StoreConditional a b i) core plain = tt

-- a bit of SR that decides it
same_bit : (old new : Core) (mask : ℕ) → bit_and 0x56 mask ≡ mask → SameControl old new → has new.sr mask ≡ has old.sr mask
same_bit old new mask among same =
    let of_new : bit_and (bit_and new.sr 0x56) mask ≡ bit_and new.sr mask = and_assoc mask new.sr 0x56 ∙ ap (bit_and new.sr) among in
    let of_old : bit_and (bit_and old.sr 0x56) mask ≡ bit_and old.sr mask = and_assoc mask old.sr 0x56 ∙ ap (bit_and old.sr) among in
    ap (λ bits. not (bits == 0)) (sym of_new ∙ ap (λ bits. bit_and bits mask) same.status ∙ of_old)

-- with the same control a core is quiet as before
pub quiet-control : (old new : Core) → IsQuiet old → SameControl old new → IsQuiet new
quiet-control old new quiet same = record {
  cached = same_bit old new ICE refl same ∙ quiet.cached;
  direct = same_bit old new IME refl same ∙ quiet.direct;
  still = ap (λ n. n / 0x40000000) same.ttmr ∙ quiet.still;
  tick = ap (λ b. b && is_tick_pending new.ttmr) (same_bit old new TEE refl same) ∙ ap (λ n. has old.sr TEE && is_tick_pending n) same.ttmr ∙ quiet.tick;
  external =
      ap (λ b. b && is_pic_pending new.picmr new.picsr) (same_bit old new IEE refl same)
      ∙ ap (λ n. has old.sr IEE && is_pic_pending n new.picsr) same.picmr
      ∙ ap (λ n. has old.sr IEE && is_pic_pending old.picmr n) same.picsr
      ∙ quiet.external;
}
