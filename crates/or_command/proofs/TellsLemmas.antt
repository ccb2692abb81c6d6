-- One step of what a host tells after another.
use Rattle.std.proofs.Common.{◌≡◌, ◌∙◌, sym, ap, refl, subst, ℕ, List, [], ◌++◌, ◌≤◌, Option, Some, None, append_assoc, append-nil, inl, inr, arith}
use Rattle.std.specs.Prelude.{IfSome}
use Rattle.or_host.specs.Bytes.{Adds, AddsPrefix}
use Rattle.or_host.specs.Told.{Content, TellsStep, TellsSame}
use Rattle.or_host.specs.Counts.{Rose}
use Rattle.or_host.specs.HostState.{HostState}
use Rattle.or_command.specs.Leaves.{Untouched, NoFault, Silent}
use Rattle.or_command.specs.Writes.{PartWritten, HoldsPrefix}

pub same_refl : {T : Type 0} (a : Option T) → TellsSame a a
same_refl None = tt
same_refl (Some x) = refl

pub same_then : {T : Type 0} (a b c : Option T) → TellsSame a b → TellsSame b c → TellsSame a c
same_then a b None ab bc = tt
same_then a None (Some z) ab bc = absurd bc
same_then None (Some y) (Some z) ab bc = absurd ab
same_then (Some x) (Some y) (Some z) ab bc = bc ∙ ab

-- what is told and the same keeps its facts
pub told_then : {T : Type 0} (P : T → Type 0) (a b : Option T) → TellsSame a b → IfSome a P → IfSome b P
told_then P a None same p = tt
told_then P None (Some y) same p = absurd same
told_then P (Some x) (Some y) same p = subst P (sym same) p

pub same_then_step : {T : Type 0} (R : T → T → Type 0) (a b c : Option T) → TellsSame a b → TellsStep R b c → TellsStep R a c
same_then_step R a b None same step = tt
same_then_step R a None (Some z) same step = absurd step
same_then_step R None (Some y) (Some z) same step = absurd same
same_then_step R (Some x) (Some y) (Some z) same step = subst (λ v. R v z) same step

pub step_then_same : {T : Type 0} (R : T → T → Type 0) (a b c : Option T) → TellsStep R a b → TellsSame b c → TellsStep R a c
step_then_same R a b None step same = tt
step_then_same R a None (Some z) step same = absurd same
step_then_same R None (Some y) (Some z) step same = absurd step
step_then_same R (Some x) (Some y) (Some z) step same = subst (λ v. R x v) (sym same) step

pub adds_none : (a b : Option (List ℕ)) → TellsSame a b → TellsStep (Adds []) a b
adds_none a None same = tt
adds_none None (Some y) same = absurd same
adds_none (Some x) (Some y) same = same ∙ sym (append-nil x)

pub none_prefix : (a b : Option (List ℕ)) → TellsSame a b → TellsStep (AddsPrefix []) a b
none_prefix a None same = tt
none_prefix None (Some y) same = absurd same
none_prefix (Some x) (Some y) same = record { first = []; is_prefix = record { rest = []; parts = refl }; added = same ∙ sym (append-nil x) }

pub adds_then : (p q : List ℕ) (a b c : Option (List ℕ)) → TellsStep (Adds p) a b → TellsStep (Adds q) b c → TellsStep (Adds (p ++ q)) a c
adds_then p q a b None ab bc = tt
adds_then p q a None (Some z) ab bc = absurd bc
adds_then p q None (Some y) (Some z) ab bc = absurd ab
adds_then p q (Some x) (Some y) (Some z) ab bc = bc ∙ ap (λ y. y ++ q) ab ∙ append_assoc x p q

pub adds_then_prefix : (p q : List ℕ) (a b c : Option (List ℕ)) → TellsStep (Adds p) a b → TellsStep (AddsPrefix q) b c → TellsStep (AddsPrefix (p ++ q)) a c
adds_then_prefix p q a b None ab bc = tt
adds_then_prefix p q a None (Some z) ab bc = absurd bc
adds_then_prefix p q None (Some y) (Some z) ab bc = absurd ab
adds_then_prefix p q (Some x) (Some y) (Some z) ab bc = record {
  first = p ++ bc.first;
  is_prefix = record { rest = bc.is_prefix.rest; parts = ap (λ q. p ++ q) bc.is_prefix.parts ∙ sym (append_assoc p bc.first bc.is_prefix.rest) };
  added = bc.added ∙ ap (λ y. y ++ bc.first) ab ∙ append_assoc x p bc.first;
}

pub prefix_longer : (p q : List ℕ) (a b : Option (List ℕ)) → TellsStep (AddsPrefix p) a b → TellsStep (AddsPrefix (p ++ q)) a b
prefix_longer p q a None ab = tt
prefix_longer p q None (Some y) ab = absurd ab
prefix_longer p q (Some x) (Some y) ab = record {
  first = ab.first;
  is_prefix = record { rest = ab.is_prefix.rest ++ q; parts = ap (λ p. p ++ q) ab.is_prefix.parts ∙ append_assoc ab.first ab.is_prefix.rest q };
  added = ab.added;
}

pub same_then_part : (text : List ℕ) (a b c : Option Content) → TellsSame a b → PartWritten text b c → PartWritten text a c
same_then_part text a b c same (inl part) = inl (same_then a b c same part)
same_then_part text a b c same (inr part) = inr part

pub part_then_same : (text : List ℕ) (a b c : Option Content) → PartWritten text a b → TellsSame b c → PartWritten text a c
part_then_same text a b c (inl part) same = inl (same_then a b c part same)
part_then_same text a b c (inr part) same = inr (told_then (HoldsPrefix text) b c same part)

pub rose_after : (a b c : ℕ) → a ≡ b → Rose b c → Rose a c
rose_after a b c e = subst (λ (n : ℕ). Rose n c) (sym e)

pub later_rose : (a b c : ℕ) → a ≤ b → Rose b c → Rose a c
later_rose a b c ab bc = omega arith

pub untouched_then : (a b c : HostState) → Untouched a b → Untouched b c → Untouched a c
untouched_then a b c ab bc = record {
  names = λ name. same_then (a.holds name) (b.holds name) (c.holds name) (ab.names name) (bc.names name);
  written = same_then a.written b.written c.written ab.written bc.written;
}

pub no_fault_then : (a b c : HostState) → NoFault a b → NoFault b c → NoFault a c
no_fault_then a b c ab bc = record { faults = bc.faults ∙ ab.faults; blame = bc.blame ∙ ab.blame }

pub untouched_refl : (a : HostState) → Untouched a a
untouched_refl a = record { names = λ name. same_refl (a.holds name); written = same_refl a.written }

pub no_fault_refl : (a : HostState) → NoFault a a
no_fault_refl a = record { faults = refl; blame = refl }

pub silent_then : (a b c : HostState) → Silent a b → Silent b c → Silent a c
silent_then a b c ab bc = record { said = same_then a.said b.said c.said ab.said bc.said; later = omega (arith, ab.later, bc.later) }

pub silent_refl : (a : HostState) → Silent a a
silent_refl a = record { said = same_refl a.said; later = omega arith }
