-- The numbers that are drawn of a seed: a linear congruential sequence of 64 bits, of which the upper bits are used.
use Rattle.std.specs.Prelude.{ℕ, zero, suc, ◌+◌, ◌*◌, ◌/◌, ◌%◌, ◌^◌, List, [], ◌∷◌, ◌++◌, slice_index, length}

abbrev pub next_state : ℕ → ℕ
next_state x = (6364136223846793005 * x + 1442695040888963407) % 2 ^ 64

-- the state after so many draws
abbrev pub state : ℕ → ℕ → ℕ
state seed zero = seed
state seed (suc draws) = next_state (state seed draws)

-- three draws are not used: a small seed is seen in the first ones
abbrev pub unused : ℕ
unused = 3

-- one draw for each core, in order of number: the greatest exponent of its stretches
abbrev pub greatest : ℕ → ℕ
greatest x = (x / 2 ^ 59) % 11

abbrev pub exponents : ℕ → ℕ → List ℕ
exponents seed zero = []
exponents seed (suc cores) = exponents seed cores ++ greatest (state seed (unused + suc cores)) ∷ []

-- the state before the first stretch
abbrev pub first_state : ℕ → ℕ → ℕ
first_state seed cores = state seed (unused + cores)

-- of a draw: which of the cores that run makes the next turns, and how many at most, where this is its greatest exponent
abbrev pub chosen : List ℕ → ℕ → ℕ
chosen running x = slice_index running ((x / 2 ^ 33) % length running)

abbrev pub most_turns : ℕ → ℕ → ℕ
most_turns exponent x = 2 ^ ((x / 2 ^ 59) % (1 + exponent))
