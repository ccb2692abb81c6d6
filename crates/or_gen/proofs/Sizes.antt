-- How long a workload's source can be.
use Rattle.std.proofs.Common.{ℕ, zero, suc, ◌+◌, ◌*◌, ◌/◌, ◌%◌, ◌^◌, ◌≤◌, Bool, true, false, cond, eqb, List, [], ◌∷◌, ◌++◌, length, length-append, codes, lit≤, arith}
use Rattle.std.specs.Fmt.{digits, digits_onto, digit_glyph}
use Rattle.or_text.specs.Hexadecimal.{hexadecimal}
use Rattle.or_gen.specs.Workload.{next_number, delay_text, delays_text, lines_text, set_up_lines, wait_lines, count_lines, print_lines, end_lines, upper_text, lower_text, number_text, workload}

digits_onto_short : (k base : ℕ) (upper : Bool) (n : ℕ) (acc : List ℕ) → length (digits_onto k base upper n acc) ≤ k + length acc
digits_onto_short zero base upper n acc = omega arith
digits_onto_short (suc k) base upper n acc =
    let glyph = digit_glyph upper (n % base) in
    elim (eqb (n / base) 0) as (λ b. length (cond b (glyph ∷ acc) (digits_onto k base upper (n / base) (glyph ∷ acc))) ≤ suc k + length acc) [
      | true ↦ omega arith
      | false ↦ omega (arith, digits_onto_short k base upper (n / base) (glyph ∷ acc))
    ]

digits_short : (base : ℕ) (upper : Bool) (n : ℕ) → length (digits base upper n) ≤ 64
unfolding digits
digits_short base upper n = omega (arith, digits_onto_short 64 base upper n [])

both_short : (a b : List ℕ) (m n : ℕ) → length a ≤ m → length b ≤ n → length (a ++ b) ≤ m + n
both_short a b m n first second = omega (arith, length-append a b, first, second)

hexadecimal_short : (n : ℕ) → length (hexadecimal n) ≤ 66
hexadecimal_short n = both_short (codes "0x") (digits 16 true n) 2 64 (lit≤ tt) (digits_short 16 true n)

upper_short : (register : List ℕ) (n : ℕ) → length register ≤ 2 → length (upper_text register n) ≤ 79
upper_short register n short =
    both_short (codes "l.movhi " ++ register ++ codes "," ++ hexadecimal (n / 65536)) (codes "\n") 78 1
    (both_short (codes "l.movhi " ++ register ++ codes ",") (hexadecimal (n / 65536)) 12 66
    (both_short (codes "l.movhi " ++ register) (codes ",") 11 1 (both_short (codes "l.movhi ") register 9 2 (lit≤ tt) short) (lit≤ tt))
    (hexadecimal_short (n / 65536))) (lit≤ tt)

lower_short : (register : List ℕ) (n : ℕ) → length register ≤ 2 → length (lower_text register n) ≤ 81
lower_short register n short =
    both_short (codes "l.ori " ++ register ++ codes "," ++ register ++ codes "," ++ hexadecimal (n % 65536)) (codes "\n") 80 1
    (both_short (codes "l.ori " ++ register ++ codes "," ++ register ++ codes ",") (hexadecimal (n % 65536)) 14 66
    (both_short (codes "l.ori " ++ register ++ codes "," ++ register) (codes ",") 13 1
    (both_short (codes "l.ori " ++ register ++ codes ",") register 11 2
    (both_short (codes "l.ori " ++ register) (codes ",") 10 1 (both_short (codes "l.ori ") register 8 2 (lit≤ tt) short) (lit≤ tt)) short) (lit≤ tt))
    (hexadecimal_short (n % 65536))) (lit≤ tt)

number_short : (register : List ℕ) (n : ℕ) → length register ≤ 2 → length (number_text register n) ≤ 160
unfolding number_text
number_short register n short = both_short (upper_text register n) (lower_text register n) 79 81 (upper_short register n short) (lower_short register n short)

delay_short : (n : ℕ) → length (delay_text n) ≤ 72
delay_short n =
    both_short (codes ".word ") (digits 10 false n ++ codes "\n") 7 65 (lit≤ tt)
    (both_short (digits 10 false n) (codes "\n") 64 1 (digits_short 10 false n) (lit≤ tt))

delays_short : (x cores : ℕ) → length (delays_text x cores) ≤ 72 * cores
delays_short x zero = omega arith
delays_short x (suc cores) =
    omega (arith, both_short (delay_text (next_number x / 2 ^ 30)) (delays_text (next_number x) cores) 72 (72 * cores) (delay_short (next_number x / 2 ^ 30)) (delays_short (next_number x) cores))

set_up_short : length (lines_text set_up_lines) ≤ 1000
unfolding set_up_lines
set_up_short = lit≤ tt

wait_short : length (lines_text wait_lines) ≤ 1000
unfolding wait_lines
wait_short = lit≤ tt

count_short : length (lines_text count_lines) ≤ 1000
unfolding count_lines
count_short = lit≤ tt

print_short : length (lines_text print_lines) ≤ 1000
unfolding print_lines
print_short = lit≤ tt

end_short : length (lines_text end_lines) ≤ 1000
unfolding end_lines
end_short = lit≤ tt

-- the source is within the limit of the assembler's
pub workload_short : (seed cores rounds : ℕ) → cores ≤ 8 → length (workload seed cores rounds) ≤ 4194304
unfolding workload
workload_short seed cores rounds few =
    let total = codes "r6" in
    let each = codes "r5" in
    let set_up = lines_text set_up_lines in
    let totals = number_text total (cores * rounds) in
    let rounds_of_each = number_text each rounds in
    let wait = lines_text wait_lines in
    let count = lines_text count_lines in
    let print = lines_text print_lines in
    let end = lines_text end_lines in
    let delays : length (delays_text seed cores) ≤ 576 = omega (arith, delays_short seed cores, few) in
    let whole = both_short (set_up ++ totals ++ rounds_of_each ++ wait ++ count ++ print ++ end ++ codes "delays: ") (delays_text seed cores) 6000 576
    (both_short (set_up ++ totals ++ rounds_of_each ++ wait ++ count ++ print ++ end) (codes "delays: ") 5900 100
    (both_short (set_up ++ totals ++ rounds_of_each ++ wait ++ count ++ print) end 4900 1000
    (both_short (set_up ++ totals ++ rounds_of_each ++ wait ++ count) print 3900 1000
    (both_short (set_up ++ totals ++ rounds_of_each ++ wait) count 2900 1000
    (both_short (set_up ++ totals ++ rounds_of_each) wait 1900 1000
    (both_short (set_up ++ totals) rounds_of_each 1700 200
    (both_short set_up totals 1000 700 set_up_short (omega (arith, number_short total (cores * rounds) (lit≤ tt))))
    (omega (arith, number_short each rounds (lit≤ tt)))) wait_short) count_short) print_short) end_short) (lit≤ tt)) delays in
    omega (arith, whole)
