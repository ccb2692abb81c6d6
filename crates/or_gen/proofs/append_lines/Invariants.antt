use Rattle.std.proofs.Common.{◌≡◌, ◌≤◌, ◌++◌, take, codes, vec_capacity}
use Rattle.std.specs.List.{flat_map}
use Rattle.or_gen.proofs.append_lines.Given as goal

abbrev pub invariant-loop-line : goal.invariant-loop-line
invariant-loop-line l = record {
  text : l.out.items ≡ l.initial.out.items ++ flat_map (λ line. line.now ++ codes "\n") (take l.line-index l.lines);
  capacity : vec_capacity l.initial.out ≤ vec_capacity l.out;
}
