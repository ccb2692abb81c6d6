-- An instruction makes no step by itself, and leaves the settings as they are.
use Rattle.std.proofs.Common.{◌≡◌, ℕ, Bool, true, false, cond, refl, ◌∙◌}
use Rattle.std.specs.Prelude.{Some, Ok, Err, IfOk, slice_set, Option, ◌==◌, ◌-◌, ℤ}
use Rattle.or_words.specs.declared.ShiftKind.{ShiftKind}
use Rattle.or_words.specs.declared.ExtendKind.{ExtendKind}
use Rattle.or_words.specs.declared.CompareCode.{CompareCode}
use Rattle.or_words.specs.declared.MacKind.{MacKind}
use Rattle.or_isa.specs.declared.Insn.{Insn}
use Rattle.or_isa.specs.declared.Insn.TheVariants.{Jump, Branch, JumpRegister, PageAddress, Nop, SystemCall, Trap, MoveHigh, TakeAccumulator, Sync, ReturnFromException, Load, LoadLinked, Store, StoreConditional, ArithmeticImmediate, AndImmediate, OrImmediate, MoveFromSpecial, MoveToSpecial, ShiftImmediate, Shift, CompareImmediate, Compare, AccumulateImmediate, Accumulate, Arithmetic, Extend, FindFirst, FindLast}
use Rattle.or_isa.specs.declared.ArithmeticKind.{ArithmeticKind}
use Rattle.or_isa.specs.declared.ArithmeticKind.TheVariants as arithmetic
use Rattle.or_parts.specs.declared.Cause.{Cause}
use Rattle.or_parts.specs.declared.Cause.TheVariants.{Range}
use Rattle.or_parts.specs.declared.SprRoute.{SprRoute}
use Rattle.or_parts.specs.declared.SprRoute.TheVariants.{Own, General}
use Rattle.or_parts.specs.declared.registers.TheConstants.{GPR32}
use Rattle.or_parts.specs.Exceptions.{kept_status}
use Rattle.or_parts.specs.Special.{SpecialRegisters, own_written, spr_route}
use Rattle.or_model.specs.declared.Stop.{Stop}
use Rattle.or_model.specs.declared.Stop.TheVariants.{Exit}
use Rattle.or_model.specs.Core.{Core, register, set_register, next_instruction, branched, exception_return, exception_entry, own_registers}
use Rattle.or_model.specs.SpecialAccess.{special_written, special_written_by}
use Rattle.or_model.specs.Execute.{put, with_carry, put_with_flags, put_with_overflow, put_with_carry, put_sum, put_difference, put_product, put_quotient, put_unsigned_quotient, put_unsigned_product, put_shifted, put_extended, put_lowest_one, put_highest_one, put_chosen, put_flag, put_comparison, put_accumulator, accumulator_read, branched_where, called, jumped, branched_on, after_nop, on_registers, put_arithmetic, executed}
use Rattle.or_model.specs.Counts.{SameSettings, SameCounts}

pub SameSettings-trans : {old middle new : Core} → SameSettings old middle → SameSettings middle new → SameSettings old new
SameSettings-trans first second = record {
  number = second.number ∙ first.number;
  cores = second.cores ∙ first.cores;
  budget = second.budget ∙ first.budget;
  latched = second.latched ∙ first.latched;
}

pub SameCounts-trans : {old middle new : Core} → SameCounts old middle → SameCounts middle new → SameCounts old new
SameCounts-trans first second = record {
  steps = second.steps ∙ first.steps;
  settings = SameSettings-trans first.settings second.settings;
}

pub SameCounts-refl : (core : Core) → SameCounts core core
SameCounts-refl core = record { steps = refl; settings = record { number = refl; cores = refl; budget = refl; latched = refl } }

pub set_register-counts : (core : Core) (n v : ℕ) → SameCounts core (set_register core n v)
set_register-counts core n v =
    elim (n == 0) as (λ b. SameCounts core (cond b core (record core { registers = slice_set core.registers n v })))
    [ true ↦ SameCounts-refl core | false ↦ record { steps = refl; settings = record { number = refl; cores = refl; budget = refl; latched = refl } } ]

pub next_instruction-counts : (core : Core) → SameCounts core (next_instruction core)
unfolding next_instruction
next_instruction-counts core = record { steps = refl; settings = record { number = refl; cores = refl; budget = refl; latched = refl } }

pub branched-counts : (core : Core) (to : ℕ) → SameCounts core (branched core to)
unfolding branched
branched-counts core to = record { steps = refl; settings = record { number = refl; cores = refl; budget = refl; latched = refl } }

pub exception_entry-counts : (core : Core) (cause : Cause) → SameCounts core (exception_entry core cause)
unfolding exception_entry
exception_entry-counts core cause = record { steps = refl; settings = record { number = refl; cores = refl; budget = refl; latched = refl } }

exception_return-counts : (core : Core) → SameCounts core (exception_return core)
unfolding exception_return
exception_return-counts core = record { steps = refl; settings = record { number = refl; cores = refl; budget = refl; latched = refl } }

put-counts : (core : Core) (d v : ℕ) → SameCounts core (put core d v)
unfolding put
put-counts core d v = SameCounts-trans (set_register-counts core d v) (next_instruction-counts _)

-- other bits of SR
with_status-counts : (core : Core) (sr : ℕ) → SameCounts core (record core { sr = sr })
with_status-counts core sr = record { steps = refl; settings = record { number = refl; cores = refl; budget = refl; latched = refl } }

unless_overflow-counts : (core next : Core) (raises : Bool) → SameCounts core next → IfOk (cond raises (Err Range) (Ok next)) (SameCounts core)
unless_overflow-counts core next raises same =
    elim raises as (λ b. IfOk (cond b (Err Range) (Ok next)) (SameCounts core)) [ true ↦ tt | false ↦ same ]

put_with_flags-counts : (core : Core) (d v : ℕ) (cy ov : Bool) → IfOk (put_with_flags core d v cy ov) (SameCounts core)
unfolding put_with_flags
put_with_flags-counts core d v cy ov =
    unless_overflow-counts core _ _ (SameCounts-trans (with_status-counts core _) (SameCounts-trans (with_status-counts (with_carry core cy) _) (put-counts _ d v)))

put_with_overflow-counts : (core : Core) (d v : ℕ) (ov : Bool) → IfOk (put_with_overflow core d v ov) (SameCounts core)
unfolding put_with_overflow
put_with_overflow-counts core d v ov = unless_overflow-counts core _ _ (SameCounts-trans (with_status-counts core _) (put-counts _ d v))

put_with_carry-counts : (core : Core) (d v : ℕ) (cy : Bool) → SameCounts core (put_with_carry core d v cy)
unfolding put_with_carry
put_with_carry-counts core d v cy = SameCounts-trans (with_status-counts core _) (put-counts _ d v)

put_shifted-counts : (core : Core) (d : ℕ) (kind : ShiftKind) (a n : ℕ) → SameCounts core (put_shifted core d kind a n)
unfolding put_shifted
put_shifted-counts core d kind a n = put-counts core d _

put_extended-counts : (core : Core) (d : ℕ) (kind : ExtendKind) (a : ℕ) → SameCounts core (put_extended core d kind a)
unfolding put_extended
put_extended-counts core d kind a = put-counts core d _

put_lowest_one-counts : (core : Core) (d a : ℕ) → SameCounts core (put_lowest_one core d a)
unfolding put_lowest_one
put_lowest_one-counts core d a = put-counts core d _

put_highest_one-counts : (core : Core) (d a : ℕ) → SameCounts core (put_highest_one core d a)
unfolding put_highest_one
put_highest_one-counts core d a = put-counts core d _

put_comparison-counts : (core : Core) (code : CompareCode) (a b : ℕ) → SameCounts core (put_comparison core code a b)
unfolding put_comparison put_flag
put_comparison-counts core code a b = SameCounts-trans (with_status-counts core _) (next_instruction-counts _)

with_accumulator-counts : (core : Core) (hi lo : ℕ) → SameCounts core (record core { machi = hi; maclo = lo })
with_accumulator-counts core hi lo = record { steps = refl; settings = record { number = refl; cores = refl; budget = refl; latched = refl } }

put_accumulator-counts : (core : Core) (kind : MacKind) (a b : ℕ) → SameCounts core (put_accumulator core kind a b)
unfolding put_accumulator
put_accumulator-counts core kind a b = SameCounts-trans (with_accumulator-counts core _ _) (next_instruction-counts _)

accumulator_read-counts : (core : Core) (d : ℕ) → SameCounts core (accumulator_read core d)
unfolding accumulator_read
accumulator_read-counts core d = SameCounts-trans (with_accumulator-counts core 0 0) (put-counts _ d _)

branched_where-counts : (core : Core) (taken : Bool) (n : ℤ) → SameCounts core (branched_where core taken n)
unfolding branched_where
branched_where-counts core taken n = branched-counts core _

called-counts : (core : Core) (to : ℕ) → SameCounts core (called core to)
unfolding called
called-counts core to = SameCounts-trans (set_register-counts core 9 _) (branched-counts _ to)

jumped-counts : (core : Core) (link : Bool) (to : ℕ) → SameCounts core (jumped core link to)
unfolding jumped
jumped-counts core link to = elim link as (λ b. SameCounts core (cond b (called core to) (branched core to))) [ true ↦ called-counts core to | false ↦ branched-counts core to ]

branched_on-counts : (core : Core) (on : Bool) (n : ℤ) → SameCounts core (branched_on core on n)
unfolding branched_on
branched_on-counts core on n = branched_where-counts core _ n

with_stop-counts : (core : Core) (stop : Option Stop) → SameCounts core (record core { stop = stop })
with_stop-counts core stop = record { steps = refl; settings = record { number = refl; cores = refl; budget = refl; latched = refl } }

after_nop-counts : (core : Core) (k : ℕ) → SameCounts core (next_instruction (after_nop core k))
unfolding after_nop
after_nop-counts core k =
    elim (k == 1) as (λ b. SameCounts core (next_instruction (cond b (record core { stop = Some (Exit (register core 3)) }) core)))
    [ true ↦ SameCounts-trans (with_stop-counts core _) (next_instruction-counts _) | false ↦ next_instruction-counts core ]

-- the registers that stand for themselves keep the core's number and the number of cores
record SameNumbers (old new : SpecialRegisters) : Type 0 where
  number : new.number ≡ old.number
  cores : new.cores ≡ old.cores

SameNumbers-cond : (old x y : SpecialRegisters) (b : Bool) → SameNumbers old x → SameNumbers old y → SameNumbers old (cond b x y)
SameNumbers-cond old x y b of_x of_y = elim b as (λ v. SameNumbers old (cond v x y)) [ true ↦ of_x | false ↦ of_y ]

own_written-numbers : (own : SpecialRegisters) (n v : ℕ) → SameNumbers own (own_written own n v)
unfolding own_written
own_written-numbers own n v =
    SameNumbers-cond own (record own { sr = kept_status v }) _ _ (record { number = refl; cores = refl })
    (SameNumbers-cond own (record own { epcr = v }) _ _ (record { number = refl; cores = refl })
    (SameNumbers-cond own (record own { eear = v }) _ _ (record { number = refl; cores = refl })
    (SameNumbers-cond own (record own { esr = v }) _ _ (record { number = refl; cores = refl })
    (SameNumbers-cond own (record own { maclo = v }) _ _ (record { number = refl; cores = refl })
    (SameNumbers-cond own (record own { machi = v }) _ _ (record { number = refl; cores = refl })
    (SameNumbers-cond own (record own { shadow = slice_set own.shadow (n - GPR32) v }) _ _ (record { number = refl; cores = refl })
    (record { number = refl; cores = refl })))))))

special_written_by-counts : (core : Core) (n v : ℕ) (route : SprRoute) → SameCounts core (special_written_by core n v route)
special_written_by-counts core n v Own = record {
  steps = refl;
  settings = record {
    number = (own_written-numbers (own_registers core) n v).number;
    cores = (own_written-numbers (own_registers core) n v).cores;
    budget = refl;
    latched = refl;
  };
}
special_written_by-counts core n v (General r) = set_register-counts core r v
special_written_by-counts core n v _ = record { steps = refl; settings = record { number = refl; cores = refl; budget = refl; latched = refl } }

special_written-counts : (core : Core) (n v : ℕ) → SameCounts core (special_written core n v)
unfolding special_written
special_written-counts core n v = special_written_by-counts core n v (spr_route n)

ruleset forms = (put_with_flags-counts, put_with_overflow-counts, put_with_carry-counts, put-counts)

-- each operation of the group writes its result in one of these forms; with a clause for one of them the other stands for each of the rest
put_arithmetic-counts : (core : Core) (kind : ArithmeticKind) (d a b : ℕ) → IfOk (put_arithmetic core kind d a b) (SameCounts core)
unfolding put_arithmetic put_sum put_difference put_product put_quotient put_chosen put_unsigned_quotient put_unsigned_product
put_arithmetic-counts core arithmetic.Add d a b = search forms
put_arithmetic-counts core _ d a b = search forms

-- whatever an instruction makes of a core
pub executed-counts : (insn : Insn) (core : Core) → IfOk (executed insn core) (SameCounts core)
unfolding executed
executed-counts (Jump link n) core = jumped-counts core link _
executed-counts (Branch on n) core = branched_on-counts core on n
executed-counts (JumpRegister link b) core = jumped-counts core link _
executed-counts (PageAddress d n) core = put-counts core _ _
executed-counts (Nop k) core = after_nop-counts core _
executed-counts (SystemCall k) core = tt
executed-counts (Trap k) core = tt
executed-counts (MoveHigh d k) core = put-counts core _ _
executed-counts (TakeAccumulator d) core = accumulator_read-counts core _
executed-counts (Sync kind) core = next_instruction-counts core
executed-counts ReturnFromException core = exception_return-counts core
executed-counts (ArithmeticImmediate kind d a i) core = put_arithmetic-counts core (on_registers kind) _ _ _
executed-counts (AndImmediate d a k) core = put-counts core _ _
executed-counts (OrImmediate d a k) core = put-counts core _ _
executed-counts (MoveFromSpecial d a k) core = put-counts core _ _
executed-counts (MoveToSpecial a b k) core = SameCounts-trans (special_written-counts core _ _) (next_instruction-counts _)
executed-counts (ShiftImmediate kind d a l) core = put_shifted-counts core _ _ _ _
executed-counts (Shift kind d a b) core = put_shifted-counts core _ _ _ _
executed-counts (CompareImmediate code a i) core = put_comparison-counts core _ _ _
executed-counts (Compare code a b) core = put_comparison-counts core _ _ _
executed-counts (AccumulateImmediate a i) core = put_accumulator-counts core _ _ _
executed-counts (Accumulate kind a b) core = put_accumulator-counts core _ _ _
executed-counts (Arithmetic kind d a b) core = put_arithmetic-counts core kind _ _ _
executed-counts (Extend width sign d a) core = put_extended-counts core _ _ _
executed-counts (FindFirst d a) core = put_lowest_one-counts core _ _
executed-counts (FindLast d a) core = put_highest_one-counts core _ _
executed-counts (Load width sign d a i) core = tt
executed-counts (LoadLinked d a i) core = tt
executed-counts (Store width a b i) core = tt
executed-counts (StoreConditional a b i) core = tt
