use Rattle.std.proofs.Common.{◌≡◌, ◌≤◌, ◌+◌, length}
use Rattle.or_script.specs.Parts.{parts_behind, length_behind}
use Rattle.or_script.specs.Script.{AreFew}
use Rattle.or_back.specs.Script.{back_script_from, back_script_of, back_fault_of}
use Rattle.or_back.proofs.script.check.Given as goal

-- the fault is that of the lines that are left
abbrev pub invariant-loop-rest : goal.invariant-loop-rest
invariant-loop-rest l = record {
  fault : back_fault_of (back_script_from l.config l.number l.points (parts_behind 10 l.rest)) ≡ back_fault_of (back_script_of l.config l.script);
  few : AreFew l.points;
  small : l.number + length_behind l.rest ≤ length l.script + 2;
}

abbrev pub decreases-loop-rest : goal.decreases-loop-rest
decreases-loop-rest l = length_behind l.rest
