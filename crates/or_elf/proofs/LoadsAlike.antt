-- Files that agree in what is read of them have the same segments and the same fault, and are placed alike.
use Rattle.std.proofs.Common.{◌≡◌, ◌∙◌, ap, sym, refl, ℕ, zero, suc, ◌+◌, ◌-◌, ◌*◌, ◌<◌, ◌≤◌, ◌==◌, Bool, List, [], ◌∷◌, ◌++◌, length, take, drop, get_or, cond, arith, Option, Some, None, map, replicate, nat_le, nat_lt, true, false}
use Rattle.std.specs.List.{filter, range_with_len, fold, All}
use Rattle.or_elf.specs.declared.fault.ElfFault.{ElfFault}
use Rattle.or_elf.specs.declared.fault.ElfFault.TheVariants.{BadIdent, BadHeader, Short}
use Rattle.or_elf.specs.declared.segment.Segment.{Segment}
use Rattle.or_elf.specs.Header.{word_at, table_start, header_count, header_start, is_load, segment_at, segments_among, segments}
use Rattle.or_elf.specs.Fault.{or_else, first_difference, ident_fault, field_fault, header_fault, program_table_fault, segments_fault, elf_fault}
use Rattle.or_elf.specs.Placed.{place_segment, placed}
use Rattle.or_elf.specs.Loading.{part, LoadsAlike}
use Rattle.or_elf.proofs.Parts.{get_or-part, word_at-part, half_at-part}

-- a header is the next segment or none
map_cond : (f : ℕ → Segment) (test : Bool) (index : ℕ) (others : List ℕ)
    → map f (cond test (index ∷ others) others) ≡ cond test (f index ∷ map f others) (map f others)
map_cond f true index others = refl
map_cond f false index others = refl

pub segments_among-suc : (bytes : List ℕ) (index count : ℕ)
    → segments_among bytes index (suc count)
    ≡ cond (is_load bytes index) (segment_at bytes index ∷ segments_among bytes (index + 1) count) (segments_among bytes (index + 1) count)
unfolding segments_among
segments_among-suc bytes index count =
    map_cond (segment_at bytes) (is_load bytes index) index (filter (is_load bytes) (range_with_len (index + 1) count))

next_same : (test test' : Bool) (segment segment' : Segment) (others others' : List Segment) → test ≡ test' → segment ≡ segment' → others ≡ others'
    → cond test (segment ∷ others) others ≡ cond test' (segment' ∷ others') others'
next_same test test' segment segment' others others' p q r = cc

-- the same headers are the same segments
segments_among_same : (xs ys : List ℕ) (index count : ℕ)
    → ((i : ℕ) → index ≤ i → i < index + count → (is_load xs i ≡ is_load ys i) × (segment_at xs i ≡ segment_at ys i))
    → segments_among xs index count ≡ segments_among ys index count
unfolding segments_among
segments_among_same xs ys index zero same = refl
segments_among_same xs ys index (suc count) same =
    let here = same index (omega arith) (omega arith) in
    let others : segments_among xs (index + 1) count ≡ segments_among ys (index + 1) count =
    segments_among_same xs ys (index + 1) count (λ i from below. same i (omega arith) (omega arith)) in
    segments_among-suc xs index count
    ∙ next_same (is_load xs index) (is_load ys index) (segment_at xs index) (segment_at ys index) _ _ here.0 here.1 others
    ∙ sym (segments_among-suc ys index count)

abbrev segment_of : ℕ → ℕ → ℕ → ℕ → ℕ → Segment
segment_of index o p f m = record { index = index; offset = o; paddr = p; filesz = f; memsz = m }

segment_same : (index o o' p p' f f' m m' : ℕ) → o ≡ o' → p ≡ p' → f ≡ f' → m ≡ m'
    → segment_of index o p f m ≡ segment_of index o' p' f' m'
segment_same index o o' p p' f f' m m' a b c d = cc

start_same : (xs ys : List ℕ) → LoadsAlike xs ys → table_start xs ≡ table_start ys
start_same xs ys same = word_at-part xs ys 0 52 28 same.header (omega arith) (omega arith)

count_same : (xs ys : List ℕ) → LoadsAlike xs ys → header_count xs ≡ header_count ys
count_same xs ys same = half_at-part xs ys 0 52 44 same.header (omega arith) (omega arith)

-- a field of a program header
field_same : (xs ys : List ℕ) (index k : ℕ) → LoadsAlike xs ys → index < header_count xs → k ≤ 28
    → word_at xs (header_start xs index + k) ≡ word_at ys (header_start ys index + k)
field_same xs ys index k same below inside =
    let place : header_start xs index + k ≡ header_start ys index + k = ap (λ start. start + 32 * index + k) (start_same xs ys same) in
    word_at-part xs ys (table_start xs) (32 * header_count xs) (header_start xs index + k) same.table (omega arith) (omega arith)
    ∙ ap (word_at ys) place

headers_same : (xs ys : List ℕ) (index : ℕ) → LoadsAlike xs ys → index < header_count xs
    → (is_load xs index ≡ is_load ys index) × (segment_at xs index ≡ segment_at ys index)
headers_same xs ys index same below =
    let kind : word_at xs (header_start xs index) ≡ word_at ys (header_start ys index) =
    word_at-part xs ys (table_start xs) (32 * header_count xs) (header_start xs index) same.table (omega arith) (omega arith)
    ∙ ap (λ start. word_at ys (start + 32 * index)) (start_same xs ys same) in (
      ap (λ kind. kind == 1) kind,
      segment_same index _ _ _ _ _ _ _ _ (field_same xs ys index 4 same below (omega arith)) (field_same xs ys index 12 same below (omega arith))
          (field_same xs ys index 16 same below (omega arith)) (field_same xs ys index 20 same below (omega arith)),
    )

pub segments_same : (xs ys : List ℕ) → LoadsAlike xs ys → segments xs ≡ segments ys
unfolding segments
segments_same xs ys same =
    segments_among_same xs ys 0 (header_count xs) (λ i from below. headers_same xs ys i same (omega arith))
    ∙ ap (segments_among ys 0) (count_same xs ys same)

first_difference_same : (at : ℕ) (wanted xs ys : List ℕ) → ((i : ℕ) → i < at + length wanted → get_or xs i 0 ≡ get_or ys i 0)
    → first_difference at wanted xs ≡ first_difference at wanted ys
first_difference_same at [] xs ys same = refl
first_difference_same at (byte ∷ others) xs ys same =
    let here : get_or xs at 0 ≡ get_or ys at 0 = same at (omega arith) in
    let rest : first_difference (at + 1) others xs ≡ first_difference (at + 1) others ys =
    first_difference_same (at + 1) others xs ys (λ i below. same i (omega arith)) in
    ap (λ found. cond (found == byte) (first_difference (at + 1) others xs) (Some (BadIdent at))) here
    ∙ ap (λ next. cond (get_or ys at 0 == byte) next (Some (BadIdent at))) rest

ident_fault_same : (xs ys : List ℕ) → LoadsAlike xs ys → ident_fault xs ≡ ident_fault ys
ident_fault_same xs ys same =
    let wanted : List ℕ = 0x7F ∷ 0x45 ∷ 0x4C ∷ 0x46 ∷ 1 ∷ 2 ∷ 1 ∷ [] in
    first_difference_same 0 wanted xs ys (λ i below. let small : i < 7 = below in get_or-part xs ys 0 52 i same.header (omega arith) (omega arith))

or_else_same : (first first' next next' : Option ElfFault) → first ≡ first' → next ≡ next' → or_else first next ≡ or_else first' next'
or_else_same first first' next next' p q = ap (λ f. or_else f next) p ∙ ap (or_else first') q

header_fault_same : (xs ys : List ℕ) → LoadsAlike xs ys → header_fault xs ≡ header_fault ys
header_fault_same xs ys same =
    let half = λ (at : ℕ) (inside : at + 2 ≤ 0 + 52). half_at-part xs ys 0 52 at same.header (omega arith) inside in
    let word = λ (at : ℕ) (inside : at + 4 ≤ 0 + 52). word_at-part xs ys 0 52 at same.header (omega arith) inside in
    or_else_same _ _ _ _ (ap (λ value. field_fault 16 value 2) (half 16 (omega arith)))
    (or_else_same _ _ _ _ (ap (λ value. field_fault 18 value 92) (half 18 (omega arith)))
    (or_else_same _ _ _ _ (ap (λ value. field_fault 20 value 1) (word 20 (omega arith)))
    (or_else_same _ _ _ _ (ap (λ value. field_fault 40 value 52) (half 40 (omega arith)))
    (or_else_same _ _ _ _ (ap (λ value. field_fault 42 value 32) (half 42 (omega arith)))
    (ap (λ count. cond (nat_le count 64) None (Some (BadHeader 44 count))) (count_same xs ys same))))))

program_table_fault_same : (xs ys : List ℕ) → LoadsAlike xs ys → program_table_fault xs ≡ program_table_fault ys
program_table_fault_same xs ys same =
    let P = λ (start count size : ℕ). cond (count == 0) None (cond (nat_le (start + 32 * count) size) None (Some (Short size))) in
    ap (λ start. P start (header_count xs) (length xs)) (start_same xs ys same)
    ∙ ap (λ count. P (table_start ys) count (length xs)) (count_same xs ys same)
    ∙ ap (λ size. P (table_start ys) (header_count ys) size) same.size

pub fault_same : (xs ys : List ℕ) (ram : ℕ) → LoadsAlike xs ys → elf_fault xs ram ≡ elf_fault ys ram
unfolding elf_fault
fault_same xs ys ram same =
    or_else_same _ _ _ _ (ap (λ size. cond (nat_lt size 52) (Some (Short size)) None) same.size)
    (or_else_same _ _ _ _ (ident_fault_same xs ys same)
    (or_else_same _ _ _ _ (header_fault_same xs ys same)
    (or_else_same _ _ _ _ (program_table_fault_same xs ys same)
    (ap (λ size. segments_fault size ram (segments xs)) same.size ∙ ap (segments_fault (length ys) ram) (segments_same xs ys same)))))

-- the same bytes are placed
placing_same : (xs ys ram : List ℕ) (list : List Segment) → All (λ segment. part xs segment.offset segment.filesz ≡ part ys segment.offset segment.filesz) list
    → fold (place_segment xs) ram list ≡ fold (place_segment ys) ram list
placing_same xs ys ram [] same = refl
placing_same xs ys ram (segment ∷ others) same =
    let here : part xs segment.offset segment.filesz ≡ part ys segment.offset segment.filesz = same 0 segment (omega arith) in
    let step : place_segment xs ram segment ≡ place_segment ys ram segment =
    ap (λ bytes. take segment.paddr ram ++ bytes ++ replicate (segment.memsz - segment.filesz) 0 ++ drop (segment.paddr + segment.memsz) ram) here in
    placing_same xs ys (place_segment xs ram segment) others (λ k d below. same (suc k) d (omega arith))
    ∙ ap (λ ram. fold (place_segment ys) ram others) step

pub placed_same : (xs ys : List ℕ) (ram : ℕ) → LoadsAlike xs ys → placed xs ram ≡ placed ys ram
unfolding placed
placed_same xs ys ram same =
    placing_same xs ys (replicate ram 0) (segments xs) same.parts
    ∙ ap (fold (place_segment ys) (replicate ram 0)) (segments_same xs ys same)
