use Rattle.std.proofs.Common.{◌≡◌, ◌≤◌, ◌++◌, drop, vec_capacity}
use Rattle.or_debug.specs.BoardText.{made_text}
use Rattle.or_debug.proofs.turns.append_last.Given as goal

-- the turns so far stand before those that are left
abbrev pub invariant-loop-index : goal.invariant-loop-index
invariant-loop-index l = record {
  text : l.text.items ++ made_text (drop l.index l.last.items) ≡ l.initial.text.items ++ made_text (drop l.from l.last.items);
  capacity : vec_capacity l.initial.text ≤ vec_capacity l.text;
}
