use Rattle.std.proofs.Common.{◌≡◌, ◌≤◌, ◌+◌, length}
use Rattle.or_script.specs.Parts.{parts_behind, length_behind}
use Rattle.or_script.specs.Script.{AreFew}
use Rattle.or_back.specs.Script.{back_script_from, back_script_of, behind}
use Rattle.or_back.proofs.script.commands.Given as goal

-- the commands so far stand before those of the lines that are left
abbrev pub invariant-loop-rest : goal.invariant-loop-rest
invariant-loop-rest l = record {
  commands : behind l.commands.items (back_script_from l.config l.at l.points (parts_behind 10 l.rest)) ≡ back_script_of l.config l.script;
  few : AreFew l.points;
  small : l.at + length_behind l.rest ≤ length l.script + 2;
}

abbrev pub decreases-loop-rest : goal.decreases-loop-rest
decreases-loop-rest l = length_behind l.rest
