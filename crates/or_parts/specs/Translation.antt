-- Translation of effective addresses by a table of one way with 64 sets and pages of 8192 bytes
-- (OpenRISC 1000 Architecture Manual, chapter 8).
use Rattle.std.specs.Prelude.{ℕ, ◌+◌, ◌*◌, ◌/◌, ◌%◌, Bool, true, false, not, ◌==◌, ◌&&◌, ◌||◌, nat_lt, if◌then◌else◌, List, Result, Ok, Err, slice_index_or, slice_set, bit_and, replicate}
use Rattle.or_parts.specs.declared.Right.{Right}
use Rattle.or_parts.specs.declared.Right.TheVariants.{Fetch, Load, Store}
use Rattle.or_parts.specs.declared.Phys.{Phys}
use Rattle.or_parts.specs.declared.TlbFault.{TlbFault}
use Rattle.or_parts.specs.declared.TlbFault.TheVariants.{Miss, PageFault}
use Rattle.or_parts.specs.Bits.{has}

-- a table of match and translate registers, for fetches or for loads and stores
pub record TranslationTable : Type 0 where
  pub fetches : Bool
  pub pairs : List (ℕ × ℕ)

-- a table of zeros
abbrev pub no_pairs : List (ℕ × ℕ)
no_pairs = replicate 64 (0, 0)

-- the bit of a translate register that gives a right, in supervisor mode or in user mode
abbrev pub right_bit : Right → Bool → ℕ
right_bit Fetch true = 0x40
right_bit Fetch false = 0x80
right_bit Load true = 0x100
right_bit Load false = 0x40
right_bit Store true = 0x200
right_bit Store false = 0x80

-- the pair of a set decides: no valid match, no right, or the page's address with the offset
abbrev pub translation_by : (ℕ × ℕ) → ℕ → Right → Bool → Result Phys TlbFault
translation_by pair ea right supervisor =
    if not (has pair.0 0x1) || not (pair.0 / 8192 == ea / 8192) then Err Miss else
    if not (has pair.1 (right_bit right supervisor)) then Err PageFault else
    Ok (record { pa = pair.1 / 8192 * 8192 + ea % 8192; inhibited = has pair.1 0x2 })

abbrev pub pair_at : List (ℕ × ℕ) → ℕ → ℕ × ℕ
pair_at pairs set = slice_index_or pairs set (0, 0)

-- where an effective address leads
unfoldable pub translation : List (ℕ × ℕ) → ℕ → Right → Bool → Result Phys TlbFault
translation pairs ea right supervisor = translation_by (pair_at pairs (ea / 8192 % 64)) ea right supervisor

-- the pairs after a write of a match register, which keeps VPN and V
abbrev pub match_written : List (ℕ × ℕ) → ℕ → ℕ → List (ℕ × ℕ)
match_written pairs set v = slice_set pairs set (bit_and v 0xFFFFE001, (pair_at pairs set).1)

-- what a translate register keeps: PPN, CI, and the rights of its table
abbrev pub kept_translation : Bool → ℕ
kept_translation true = 0xFFFFE0C2
kept_translation false = 0xFFFFE3C2

-- the pairs after a write of a translate register
abbrev pub translate_written : Bool → List (ℕ × ℕ) → ℕ → ℕ → List (ℕ × ℕ)
translate_written fetches pairs set v = slice_set pairs set ((pair_at pairs set).0, bit_and v (kept_translation fetches))

-- with its MMU off an address is its own physical address
abbrev pub physical : Bool → List (ℕ × ℕ) → ℕ → Right → Bool → Result Phys TlbFault
physical true pairs ea right supervisor = translation pairs ea right supervisor
physical false pairs ea right supervisor = Ok (record { pa = ea; inhibited = false })

-- an access is cached below 80000000, where the cache is on and the page does not inhibit it
abbrev pub is_cacheable : Bool → Phys → Bool
is_cacheable enabled phys = enabled && nat_lt phys.pa 0x80000000 && not phys.inhibited
