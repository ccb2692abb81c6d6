-- A name is looked for in one symbol after another, and the segment around an address in one header after another.
use Rattle.std.proofs.Common.{◌≡◌, ℕ, ◌+◌, ◌-◌, ◌<◌, ◌≤◌, List, true, false, Some, None}
use Rattle.or_elf.specs.Symbols.{symbol_start}
use Rattle.or_elf.specs.Names.{is_named, named_among, has_address, segment_around}
use Rattle.or_elf.proofs.Ranges.{first_found, first_passed, first_none}

pub name_found : (name names bytes : List ℕ) (first index count : ℕ) → index < count → is_named name names bytes (symbol_start first index) ≡ true
    → named_among name names bytes first index (count - index) ≡ Some index
unfolding named_among
name_found name names bytes first index count more is = first_found (λ index. is_named name names bytes (symbol_start first index)) index count more is

pub name_passed : (name names bytes : List ℕ) (first index count : ℕ) → index < count → is_named name names bytes (symbol_start first index) ≡ false
    → named_among name names bytes first (index + 1) (count - (index + 1)) ≡ named_among name names bytes first index (count - index)
unfolding named_among
name_passed name names bytes first index count more is = first_passed (λ index. is_named name names bytes (symbol_start first index)) index count more is

pub name_none : (name names bytes : List ℕ) (first index count : ℕ) → count ≤ index → named_among name names bytes first index (count - index) ≡ None
unfolding named_among
name_none name names bytes first index count done = first_none (λ index. is_named name names bytes (symbol_start first index)) index count done

pub segment_found : (bytes : List ℕ) (address index count : ℕ) → index < count → has_address bytes address index ≡ true
    → segment_around bytes address index (count - index) ≡ Some index
unfolding segment_around
segment_found bytes address index count more is = first_found (has_address bytes address) index count more is

pub segment_passed : (bytes : List ℕ) (address index count : ℕ) → index < count → has_address bytes address index ≡ false
    → segment_around bytes address (index + 1) (count - (index + 1)) ≡ segment_around bytes address index (count - index)
unfolding segment_around
segment_passed bytes address index count more is = first_passed (has_address bytes address) index count more is

pub segment_none : (bytes : List ℕ) (address index count : ℕ) → count ≤ index → segment_around bytes address index (count - index) ≡ None
unfolding segment_around
segment_none bytes address index count done = first_none (has_address bytes address) index count done
