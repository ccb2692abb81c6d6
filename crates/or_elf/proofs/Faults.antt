-- What follows where a file has no fault.
use Rattle.std.proofs.Common.{◌≡◌, ℕ, List, [], ◌∷◌, length, Option, Some, None, arith, refl}
use Rattle.std.specs.List.{All}
use Rattle.std.proofs.lemmas.Bool.Decides.{nat_tests}
use Rattle.std.proofs.lemmas.List.Elements.{All-nil, All-cons}
use Rattle.or_elf.specs.declared.fault.ElfFault.{ElfFault}
use Rattle.or_elf.specs.declared.segment.Segment.{Segment}
use Rattle.or_elf.specs.Header.{segments}
use Rattle.or_elf.specs.Fault.{or_else, length_fault, ident_fault, header_fault, program_table_fault, segment_fault, first_segment_fault, segments_fault, elf_fault, IsInside}

pub or_else_none : (first next : Option ElfFault) → or_else first next ≡ None → (first ≡ None) × (next ≡ None)
or_else_none None next e = (refl, e)
or_else_none (Some fault) next e = cc

pub segment_inside : (size ram : ℕ) (segment : Segment) → segment_fault size ram segment ≡ None → IsInside size ram segment
segment_inside size ram segment sound =
    record { in_file = λ some. grind (arith, nat_tests); in_ram = grind (arith, nat_tests); in_memory = grind (arith, nat_tests) }

all_inside : (size ram : ℕ) (list : List Segment) → first_segment_fault size ram list ≡ None → All (IsInside size ram) list
all_inside size ram [] sound = All-nil (IsInside size ram)
all_inside size ram (segment ∷ others) sound =
    let parts = or_else_none (segment_fault size ram segment) (first_segment_fault size ram others) sound in
    All-cons (IsInside size ram) segment others (segment_inside size ram segment parts.0) (all_inside size ram others parts.1)

pub segments_inside : (size ram : ℕ) (list : List Segment) → segments_fault size ram list ≡ None → All (IsInside size ram) list
segments_inside size ram [] sound = All-nil (IsInside size ram)
segments_inside size ram (segment ∷ others) sound = all_inside size ram (segment ∷ others) sound

-- each segment of a file without a fault lies in the file and in RAM
pub inside_lem : (bytes : List ℕ) (ram : ℕ) → elf_fault bytes ram ≡ None → All (IsInside (length bytes) ram) (segments bytes)
unfolding elf_fault
inside_lem bytes ram sound =
    let past_length = or_else_none (length_fault bytes) _ sound in
    let past_ident = or_else_none (ident_fault bytes) _ past_length.1 in
    let past_header = or_else_none (header_fault bytes) _ past_ident.1 in
    let past_table = or_else_none (program_table_fault bytes) _ past_header.1 in
    segments_inside (length bytes) ram (segments bytes) past_table.1
