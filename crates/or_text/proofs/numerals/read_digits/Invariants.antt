use Rattle.std.proofs.Common.{◌≡◌, ◌≤◌, ◌^◌, length, min}
use Rattle.std.specs.Char.{is_digit}
use Rattle.std.specs.List.{list_all}
use Rattle.std.specs.Str.Parse.{digits_value, digits_value_after}
use Rattle.or_text.specs.Numerals.{are_digits}
use Rattle.or_text.proofs.numerals.read_digits.Given as goal

-- what is left decides whether all are digits, and completes the number
abbrev pub invariant-loop-byte : goal.invariant-loop-byte
invariant-loop-byte l = record {
  form : list_all (λ b. is_digit b l.base) l.rest ≡ are_digits l.base l.text;
  number : min (digits_value_after l.base l.value l.rest) (2 ^ 32) ≡ min (digits_value l.base l.text) (2 ^ 32);
  small : l.value ≤ 2 ^ 32;
}

abbrev pub decreases-loop-byte : goal.decreases-loop-byte
decreases-loop-byte l = length l.rest
