-- What a command's files decide is decided as well where more is said behind its end.
use Rattle.std.proofs.Common.{◌≡◌, ◌∙◌, sym, ap, subst, inl, inr, ℕ, List, [], ◌∷◌, Option, Some, None}
use Rattle.or_host.specs.HostState.{HostState}
use Rattle.or_host.specs.Told.{Content, TellsSame}
use Rattle.or_host.specs.Counts.{Rose}
use Rattle.or_command.specs.Loads.{Load}
use Rattle.or_command.specs.Said.{OnlySays}
use Rattle.or_command.specs.Writes.{File}
use Rattle.or_command.specs.Ends.{FailedCheck}
use Rattle.or_command.specs.Outcomes.{AllTold}
use Rattle.or_command.specs.Answered.{TellsLong, IsDecided}

-- what is told later was told before
held_before : (before after : Option Content) (content : Content) → TellsSame before after → after ≡ Some content → before ≡ Some content
held_before before None content same held = absurd (let b : ⊥ = cc in b)
held_before None (Some later) content same held = absurd same
held_before (Some earlier) (Some later) content same held = ap Some (sym same) ∙ held

told_before : (loads : List Load) (files : List (List ℕ)) (d e : HostState) → OnlySays d e → AllTold loads files e → AllTold loads files d
told_before [] [] d e only told = tt
told_before [] (file ∷ files) d e only told = absurd told
told_before (load ∷ loads) [] d e only told = absurd told
told_before (load ∷ loads) (file ∷ files) d e only told =
    (held_before (d.holds load.name) (e.holds load.name) (Some file) (only.names load.name) told.0, told_before loads files d e only told.1)

long_before : (loads : List Load) (d e : HostState) → OnlySays d e → TellsLong loads e → TellsLong loads d
long_before loads d e only long = record {
  front = long.front;
  load = long.load;
  rest = long.rest;
  order = long.order;
  before = long.before;
  told = told_before long.front long.before d e only long.told;
  fit = long.fit;
  file = long.file;
  held = held_before (d.holds long.load.name) (e.holds long.load.name) (Some long.file) (only.names long.load.name) long.held;
  over = long.over;
}

pub decided_behind : (loads : List Load) (verdict : List (List ℕ) → Option FailedCheck) (Writes : List (List ℕ) → List File → List ℕ → Type 0)
    (OnNoMemory : HostState → HostState → Type 0) (status : ℕ) (a d e : HostState)
    → (OnNoMemory a d → OnNoMemory a e) → IsDecided loads verdict Writes OnNoMemory status a d → OnlySays d e → IsDecided loads verdict Writes OnNoMemory status a e
decided_behind loads verdict Writes OnNoMemory status a d e lacking decided only = record {
  by_files = λ files told sound. elim (decided.by_files files (told_before loads files d e only told) (λ rose. sound (subst (λ (n : ℕ). Rose a.faults n) (sym only.faults) rose))) [
    | inl is ↦ inl is
    | inr lacks ↦ inr (lacks.0, lacking lacks.1)
  ];
  by_long = λ long sound. elim (decided.by_long (long_before loads d e only long) (λ rose. sound (subst (λ (n : ℕ). Rose a.faults n) (sym only.faults) rose))) [
    | inl is ↦ inl is
    | inr lacks ↦ inr (lacks.0, lacking lacks.1)
  ];
}
