-- The workload: cores that count one counter up under l.lwa and l.swa, each behind a delay of its own.
use Rattle.std.specs.Prelude.{ℕ, zero, suc, ◌+◌, ◌*◌, ◌/◌, ◌%◌, ◌^◌, List, [], ◌∷◌, ◌++◌, codes, decimal}
use Rattle.std.specs.List.{flat_map}
use Rattle.or_text.specs.Hexadecimal.{hexadecimal}

-- lines, each ended by a line feed
abbrev pub lines_text : List (List ℕ) → List ℕ
lines_text lines = flat_map (λ line. line ++ codes "\n") lines

-- the next number of a linear congruential sequence
abbrev pub next_number : ℕ → ℕ
next_number x = (1664525 * x + 1013904223) % 2 ^ 32

abbrev pub delay_text : ℕ → List ℕ
delay_text delay = codes ".word " ++ decimal delay ++ codes "\n"

-- a word for each of so many cores, its delay of 0 to 3: the upper two bits of the numbers behind this one
abbrev pub delays_text : ℕ → ℕ → List ℕ
delays_text x zero = []
delays_text x (suc cores) = delay_text (next_number x / 2 ^ 30) ++ delays_text (next_number x) cores

-- the caches, the core's delay and the address of the counter
unfoldable pub set_up_lines : List (List ℕ)
set_up_lines =
    codes ".org 0x100" ∷ codes "l.mfspr r15,r0,0x11" ∷ codes "l.ori r15,r15,0x18" ∷ codes "l.mtspr r0,r15,0x11" ∷
    codes "l.mfspr r10,r0,0x80" ∷ codes "l.slli r11,r10,2" ∷ codes "l.movhi r12,hi(delays)" ∷ codes "l.ori r12,r12,lo(delays)" ∷
    codes "l.add r12,r12,r11" ∷ codes "l.lwz r13,0(r12)" ∷ codes "l.movhi r2,hi(counter)" ∷ codes "l.ori r2,r2,lo(counter)" ∷ []

-- a round waits as often as the delay says
unfoldable pub wait_lines : List (List ℕ)
wait_lines =
    codes "round: l.ori r14,r13,0x0" ∷ codes "wait: l.sfeqi r14,0" ∷ codes "l.bf try" ∷ codes "l.nop 0x0" ∷
    codes "l.j wait" ∷ codes "l.addi r14,r14,-1" ∷ []

-- then it adds one to the counter, and tries again until that succeeds; the core that brings the counter to its end prints it
unfoldable pub count_lines : List (List ℕ)
count_lines =
    codes "try: l.lwa r4,0(r2)" ∷ codes "l.addi r4,r4,1" ∷ codes "l.swa 0(r2),r4" ∷ codes "l.bnf try" ∷
    codes "l.nop 0x0" ∷ codes "l.sfeq r4,r6" ∷ codes "l.bf print" ∷ codes "l.addi r5,r5,-1" ∷
    codes "l.sfnei r5,0" ∷ codes "l.bf round" ∷ codes "l.nop 0x0" ∷ codes "done: l.ori r3,r0,0x0" ∷
    codes "l.nop 0x1" ∷ []

-- eight hexadecimal digits
unfoldable pub print_lines : List (List ℕ)
print_lines =
    codes "print: l.movhi r8,0x9000" ∷ codes "l.addi r7,r0,28" ∷ codes "digit: l.srl r9,r4,r7" ∷ codes "l.andi r9,r9,0xF" ∷
    codes "l.sfgtui r9,9" ∷ codes "l.bf letter" ∷ codes "l.addi r9,r9,48" ∷ codes "l.j emit" ∷
    codes "l.nop 0x0" ∷ codes "letter: l.addi r9,r9,7" ∷ codes "emit: l.sb 0(r8),r9" ∷ codes "l.sfeqi r7,0" ∷
    codes "l.bf last" ∷ codes "l.nop 0x0" ∷ codes "l.j digit" ∷ codes "l.addi r7,r7,-4" ∷ []

-- a line feed; and the counter in memory
unfoldable pub end_lines : List (List ℕ)
end_lines =
    codes "last: l.addi r9,r0,10" ∷ codes "l.j done" ∷ codes "l.sb 0(r8),r9" ∷ codes ".org 0x1000" ∷
    codes "counter: .word 0" ∷ []

-- a register gets a number of 32 bits: its upper half, then its lower half
abbrev pub upper_text : List ℕ → ℕ → List ℕ
upper_text register number = codes "l.movhi " ++ register ++ codes "," ++ hexadecimal (number / 65536) ++ codes "\n"

abbrev pub lower_text : List ℕ → ℕ → List ℕ
lower_text register number = codes "l.ori " ++ register ++ codes "," ++ register ++ codes "," ++ hexadecimal (number % 65536) ++ codes "\n"

unfoldable pub number_text : List ℕ → ℕ → List ℕ
number_text register number = upper_text register number ++ lower_text register number

-- the source for this seed, so many cores, and so many rounds of each
unfoldable pub workload : ℕ → ℕ → ℕ → List ℕ
workload seed cores rounds =
    lines_text set_up_lines ++ number_text (codes "r6") (cores * rounds) ++ number_text (codes "r5") rounds
    ++ lines_text wait_lines ++ lines_text count_lines ++ lines_text print_lines ++ lines_text end_lines
    ++ codes "delays: " ++ delays_text seed cores
