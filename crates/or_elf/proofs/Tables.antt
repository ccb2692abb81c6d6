-- The symbol table is found one section header after another, and its symbols of a type one after another.
use Rattle.std.proofs.Common.{◌≡◌, ap, ℕ, ◌+◌, ◌-◌, ◌<◌, ◌≤◌, ◌==◌, List, [], ◌∷◌, ◌++◌, true, false, eqb, Some, None}
use Rattle.or_elf.specs.declared.symbols.Symbol.{Symbol}
use Rattle.or_elf.specs.Symbols.{section_at, symbol_start, is_of_type, symbol_at, symbols_among, table_among}
use Rattle.or_elf.proofs.Ranges.{kept_taken, kept_passed, kept_none, first_found, first_passed, first_none}

pub table_found : (bytes : List ℕ) (index count : ℕ) → index < count → (section_at bytes index).kind ≡ 2 → table_among bytes index (count - index) ≡ Some index
unfolding table_among
table_found bytes index count more kind =
    first_found (λ index. (section_at bytes index).kind == 2) index count more (ap (λ kind. kind == 2) kind)

pub table_passed : (bytes : List ℕ) (index count : ℕ) → index < count → eqb (section_at bytes index).kind 2 ≡ false
    → table_among bytes (index + 1) (count - (index + 1)) ≡ table_among bytes index (count - index)
unfolding table_among
table_passed bytes index count more kind = first_passed (λ index. (section_at bytes index).kind == 2) index count more kind

pub table_none : (bytes : List ℕ) (index count : ℕ) → count ≤ index → table_among bytes index (count - index) ≡ None
unfolding table_among
table_none bytes index count done = first_none (λ index. (section_at bytes index).kind == 2) index count done

pub symbol_taken : (kind : ℕ) (bytes : List ℕ) (first index count : ℕ) (old new whole : List Symbol) → index < count
    → is_of_type kind bytes (symbol_start first index) ≡ true → new ≡ old ++ symbol_at bytes first index ∷ []
    → old ++ symbols_among kind bytes first index (count - index) ≡ whole → new ++ symbols_among kind bytes first (index + 1) (count - (index + 1)) ≡ whole
unfolding symbols_among
symbol_taken kind bytes first index count old new whole more is taken read =
    kept_taken (symbol_at bytes first) (λ index. is_of_type kind bytes (symbol_start first index)) index count old new whole more is taken read

pub symbol_passed : (kind : ℕ) (bytes : List ℕ) (first index count : ℕ) (old new whole : List Symbol) → index < count
    → is_of_type kind bytes (symbol_start first index) ≡ false → new ≡ old
    → old ++ symbols_among kind bytes first index (count - index) ≡ whole → new ++ symbols_among kind bytes first (index + 1) (count - (index + 1)) ≡ whole
unfolding symbols_among
symbol_passed kind bytes first index count old new whole more other same read =
    kept_passed (symbol_at bytes first) (λ index. is_of_type kind bytes (symbol_start first index)) index count old new whole more other same read

pub symbols_read : (kind : ℕ) (bytes : List ℕ) (first index count : ℕ) (old whole : List Symbol) → count ≤ index
    → old ++ symbols_among kind bytes first index (count - index) ≡ whole → old ≡ whole
unfolding symbols_among
symbols_read kind bytes first index count old whole done read =
    kept_none (symbol_at bytes first) (λ index. is_of_type kind bytes (symbol_start first index)) index count old whole done read
