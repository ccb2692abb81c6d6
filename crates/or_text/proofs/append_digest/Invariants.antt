use Rattle.std.proofs.Common.{◌≡◌, ◌++◌, ◌≤◌, ◌+◌, ◌*◌, take, vec_capacity, vec_len}
use Rattle.or_text.specs.Hexadecimal.{digest_text}
use Rattle.or_text.specs.Keeps.{Keeps}
use Rattle.or_text.proofs.append_digest.Given as goal

abbrev pub invariant-loop-byte : goal.invariant-loop-byte
invariant-loop-byte l = record {
  text : l.out.items ≡ l.initial.out.items ++ digest_text (take l.byte-index l.bytes);
  len : vec_len l.out ≡ vec_len l.initial.out + 2 * l.byte-index;
  capacity : vec_capacity l.initial.out ≤ vec_capacity l.out;
  kept : Keeps l.initial.out.items l.out.items;
}
