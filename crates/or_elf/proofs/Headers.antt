-- Segments are found one program header after another.
use Rattle.std.proofs.Common.{◌≡◌, ap, ℕ, ◌+◌, ◌-◌, ◌<◌, ◌≤◌, ◌==◌, List, [], ◌∷◌, ◌++◌, length, false, eqb, arith, length-append}
use Rattle.or_elf.specs.declared.segment.Segment.{Segment}
use Rattle.or_elf.specs.Header.{word_at, header_start, is_load, segment_at, segments_among}
use Rattle.or_elf.proofs.Ranges.{kept_taken, kept_passed, kept_none}

-- a header of type 1 is the next segment
pub segment_taken : (bytes : List ℕ) (index count : ℕ) (old new whole : List Segment) → index < count
    → word_at bytes (header_start bytes index) ≡ 1 → new ≡ old ++ segment_at bytes index ∷ []
    → old ++ segments_among bytes index (count - index) ≡ whole → new ++ segments_among bytes (index + 1) (count - (index + 1)) ≡ whole
unfolding segments_among
segment_taken bytes index count old new whole more is_one taken read =
    kept_taken (segment_at bytes) (is_load bytes) index count old new whole more (ap (λ kind. kind == 1) is_one) taken read

-- another header is passed over
pub header_passed : (bytes : List ℕ) (index count : ℕ) (old new whole : List Segment) → index < count
    → eqb (word_at bytes (header_start bytes index)) 1 ≡ false → new ≡ old
    → old ++ segments_among bytes index (count - index) ≡ whole → new ++ segments_among bytes (index + 1) (count - (index + 1)) ≡ whole
unfolding segments_among
header_passed bytes index count old new whole more other same read =
    kept_passed (segment_at bytes) (is_load bytes) index count old new whole more other same read

-- one more segment, or none, has room
pub room_taken : (index : ℕ) (old new : List Segment) (segment : Segment) → new ≡ old ++ segment ∷ [] → length old ≤ index → length new ≤ index + 1
room_taken index old new segment taken room = omega (arith, ap length taken, length-append old (segment ∷ []))

pub room_passed : (index : ℕ) (old new : List Segment) → new ≡ old → length old ≤ index → length new ≤ index + 1
room_passed index old new same room = omega (arith, ap length same)

-- behind the last header there is none
pub none_left : (bytes : List ℕ) (index count : ℕ) (old whole : List Segment) → count ≤ index → old ++ segments_among bytes index (count - index) ≡ whole → old ≡ whole
unfolding segments_among
none_left bytes index count old whole done read = kept_none (segment_at bytes) (is_load bytes) index count old whole done read
