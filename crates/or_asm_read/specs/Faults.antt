-- The faults of a line.
use Rattle.std.specs.Prelude.{ℕ, nat_le, if◌then◌else◌, Result, Ok, Err}
use Rattle.or_asm_read.specs.declared.fault.Fault.{Fault}
use Rattle.or_asm_read.specs.declared.fault.Fault.TheVariants.{BadLine, UnknownName, OutOfRange, UnknownLabel, RepeatedLabel, Overlap}

abbrev pub number_of_fault : Fault → ℕ
number_of_fault BadLine = 1
number_of_fault UnknownName = 2
number_of_fault OutOfRange = 3
number_of_fault UnknownLabel = 4
number_of_fault RepeatedLabel = 5
number_of_fault Overlap = 6

abbrev pub lesser : Fault → Fault → Fault
lesser e f = if nat_le (number_of_fault e) (number_of_fault f) then e else f

-- what both give, or the least fault of the two
abbrev pub lesser_fault : {X Y Z : Type 0} → (X → Y → Z) → Result X Fault → Result Y Fault → Result Z Fault
lesser_fault f (Ok x) (Ok y) = Ok (f x y)
lesser_fault f (Ok x) (Err e) = Err e
lesser_fault f (Err e) (Ok y) = Err e
lesser_fault f (Err e) (Err d) = Err (lesser e d)
