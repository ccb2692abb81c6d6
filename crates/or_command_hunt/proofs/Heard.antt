-- What is said behind what was silent, and one line more.
use Rattle.std.proofs.Common.{◌≡◌, ◌∙◌, ℕ, zero, suc, ◌≤◌, ◌^◌, min, refl, subst, arith}
use Rattle.or_host.specs.HostState.{HostState}
use Rattle.or_command.specs.Leaves.{Untouched, NoFault, Silent}
use Rattle.or_command.specs.Lines.{tries_line}
use Rattle.or_command.specs.Said.{OnlySays, SaidLine}
use Rattle.or_command.proofs.TellsLemmas.{same_refl, same_then}
use Rattle.or_command.proofs.SaysLemmas.{only_then}
use Rattle.or_command_hunt.specs.Tries.{tried, SaidTries, IsHeard}

pub silent_none : (a : HostState) → Silent a a
silent_none a = record { said = same_refl a.said; later = omega arith }

pub only_none : (a : HostState) → OnlySays a a
only_none a = record { names = λ name. same_refl (a.holds name); written = same_refl a.written; faults = refl; lacks = refl; blame = refl }

-- no line was said
pub heard_none : (tries : ℕ) (a : HostState) → IsHeard tries a a
heard_none tries a = record { lines = 0; said = silent_none a; only = only_none a }

silent_then : (a b c : HostState) → Silent a b → Silent b c → Silent a c
silent_then a b c ab bc = record { said = same_then a.said b.said c.said ab.said bc.said; later = omega (arith, ab.later, bc.later) }

said_behind : (tries lines : ℕ) (a b c : HostState) → Silent a b → SaidTries tries lines b c → SaidTries tries lines a c
said_behind tries zero a b c silent said = silent_then a b c silent said
said_behind tries (suc lines) a b c silent said = (said.0, said_behind tries lines a b said.0 silent said.1, said.2)

-- the lines behind loads
pub heard_behind : (tries : ℕ) (a b c : HostState) → Untouched a b → NoFault a b → b.lacks ≡ a.lacks → Silent a b → IsHeard tries b c → IsHeard tries a c
heard_behind tries a b c untouched no_fault lacks silent is = record {
  lines = is.lines;
  said = said_behind tries is.lines a b c silent is.said;
  only = only_then a b c (record { names = untouched.names; written = untouched.written; faults = no_fault.faults; lacks = lacks; blame = no_fault.blame }) is.only;
}

-- one line more
pub said_more : (tries lines next : ℕ) (a b c : HostState) → next ≡ min (2 ^ lines) tries → SaidTries tries lines a b → SaidLine (tries_line next) b c
    → SaidTries tries (suc lines) a c
said_more tries lines next a b c is said line = (b, said, subst (λ (n : ℕ). SaidLine (tries_line n) b c) is line)
