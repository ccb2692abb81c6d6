use Rattle.std.proofs.Common.{◌≡◌}
use Rattle.arrayvec.specs.ArrayVec.{array_vec_len}
use Rattle.or_hunt.specs.Draws.{exponents, first_state}
use Rattle.or_hunt.proofs.draws.begin.Given as goal

-- the exponents of so many cores were drawn
abbrev pub invariant-loop : goal.invariant-loop
invariant-loop l = record {
  so_many : array_vec_len l.exponents ≡ l.counter;
  exponents : l.exponents.items ≡ exponents l.seed l.counter;
  state : l.x ≡ first_state l.seed l.counter;
}
