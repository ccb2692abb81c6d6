-- What it means that a count rose.
use Rattle.std.proofs.Common.{ℕ, ◌≤◌, ◌<◌, inl, inr, arith}
use Rattle.std.specs.Prelude.{◌⊎◌}
use Rattle.std.proofs.lemmas.Bool.{cases_lt}
use Rattle.or_host.specs.Counts.{Rose, last_count}

-- it is greater than before, or stands at its last value
pub rose_means : (before after : ℕ) → Rose before after → (before < after) ⊎ (last_count ≤ after)
rose_means before after rose = elim (cases_lt before after) [ inl less ↦ inl less | inr least ↦ inr (omega arith) ]

pub greater_rose : (before after : ℕ) → before < after → Rose before after
greater_rose before after less = omega arith

pub last_rose : (before after : ℕ) → last_count ≤ after → Rose before after
last_rose before after last = omega arith
