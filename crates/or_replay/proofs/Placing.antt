-- A segment loaded and cleared is a segment placed.
use Rattle.std.proofs.Common.{◌≡◌, ℕ, ◌+◌, ◌-◌, ◌≤◌, ◌<◌, List, ◌∷◌, ◌++◌, length, take, drop, ap, sym, ◌∙◌, arith, length-append, append_assoc, inl, inr, suc}
use Rattle.std.specs.List.{All}
use Rattle.std.specs.Prelude.{replicate}
use Rattle.std.proofs.lemmas.List.{length-take-le, length-take, length-drop}
use Rattle.std.proofs.lemmas.Bool.{cases_lt}
use Rattle.or_elf.specs.declared.segment.Segment.{Segment}
use Rattle.or_elf.specs.Fault.{IsInside}
use Rattle.or_elf.specs.Placed.{place_segment}
use Rattle.std.proofs.Math.Seq.{take-append_seam, drop-append-add, drop-drop}
use Rattle.or_mem.specs.Memory.{overwritten, zeroed}

-- behind what was loaded stand zeros, and behind them what stood there
pub zeroed_behind : (ram part : List ℕ) (p f m : ℕ) → length part ≡ f → f ≤ m → p + m ≤ length ram
    → zeroed (overwritten ram p part) (p + f) (m - f) ≡ take p ram ++ part ++ replicate (m - f) 0 ++ drop (p + m) ram
zeroed_behind ram part p f m size few room =
    let front = take p ram ++ part in
    let tail = drop (p + length part) ram in
    let seam : overwritten ram p part ≡ front ++ tail = sym (append_assoc (take p ram) part tail) in
    let long : length front ≡ p + f = omega (arith, length-append (take p ram) part, length-take-le p ram (omega arith)) in
    let first : take (p + f) (overwritten ram p part) ≡ front =
    ap (take (p + f)) seam ∙ ap (λ n. take n (front ++ tail)) (sym long) ∙ take-append_seam front tail in
    let behind : p + length part + (m - f) ≡ p + m = omega arith in
    let last : drop (p + f + (m - f)) (overwritten ram p part) ≡ drop (p + m) ram =
    ap (drop (p + f + (m - f))) seam ∙ ap (λ n. drop (n + (m - f)) (front ++ tail)) (sym long) ∙ drop-append-add front tail (m - f) ∙ drop-drop (m - f) (p + length part) ram ∙ ap (λ n. drop n ram) behind in
    ap (λ l. l ++ (replicate (m - f) 0 ++ drop (p + f + (m - f)) (overwritten ram p part))) first
    ∙ ap (λ l. front ++ (replicate (m - f) 0 ++ l)) last ∙ sym (append_assoc front (replicate (m - f) 0) (drop (p + m) ram))

-- the part of a file has its length
part_length : (image : List ℕ) (offset f : ℕ) → (0 < f → offset + f ≤ length image) → length (take f (drop offset image)) ≡ f
part_length image offset f inside = elim (cases_lt 0 f) [
  | inl some ↦ let fits = inside some in length-take-le f (drop offset image) (omega (arith, length-drop offset image, fits))
  | inr none ↦ omega (arith, length-take f (drop offset image))
]

-- a segment that was loaded and cleared is placed
pub placed_segment : (image ram loaded cleared part : List ℕ) (segment : Segment) → IsInside (length image) (length ram) segment
    → part ≡ take segment.filesz (drop segment.offset image) → loaded ≡ overwritten ram segment.paddr part
    → cleared ≡ zeroed loaded (segment.paddr + segment.filesz) (segment.memsz - segment.filesz) → cleared ≡ place_segment image ram segment
placed_segment image ram loaded cleared part segment inside is_part is_loaded is_cleared =
    let bytes = take segment.filesz (drop segment.offset image) in
    let size : length bytes ≡ segment.filesz = part_length image segment.offset segment.filesz inside.in_file in
    is_cleared
    ∙ ap (λ l. zeroed l (segment.paddr + segment.filesz) (segment.memsz - segment.filesz)) (is_loaded ∙ ap (overwritten ram segment.paddr) is_part)
    ∙ zeroed_behind ram bytes segment.paddr segment.filesz segment.memsz size inside.in_memory inside.in_ram

pub all_later : (P : Segment → Type 0) (segment : Segment) (others : List Segment) → All P (segment ∷ others) → All P others
all_later P segment others all = λ k d lt. all (suc k) d (omega (arith, lt))

pub ruleset placing = (placed_segment)
