-- The answer for a source is the fault of its first faulty line, or the program of all lines.
use Rattle.std.proofs.Common.{◌≡◌, ◌∙◌, refl, sym, ap, ℕ, ◌+◌, List, [], ◌∷◌, ◌++◌, length, Option, Some, None, Result, Ok, Err, arith}
use Rattle.or_asm_read.specs.declared.fault.Fault.{Fault}
use Rattle.or_asm_read.specs.AtFault.{word_at_fault}
use Rattle.or_asm_read.specs.Labels.{Labels}
use Rattle.or_asm.specs.Lines.{lines_of}
use Rattle.or_asm.specs.Source.{State, initial_state, line_fault, state_after, SourceFault, source_fault, fault_at, unless_fault, source_from, source_of}
use Rattle.or_asm.specs.First.{RunsWithoutFault, all_labels, IsFirstFault, IsProgram}

-- the first fault among lines that begin in a state
record FaultFrom (labels : Labels) (number : ℕ) (from : State) (lines : List (List ℕ)) (refusal : SourceFault) : Type 0 where
  front : List (List ℕ)
  line : List ℕ
  rest : List (List ℕ)
  state : State
  parts : lines ≡ front ++ line ∷ rest
  counts : refusal.line ≡ number + length front
  leads : RunsWithoutFault labels from front state
  faulty : line_fault labels state line ≡ Some refusal.fault
  about : refusal.word ≡ word_at_fault labels state.place line refusal.fault

record ProgramFrom (labels : Labels) (from : State) (lines : List (List ℕ)) (pieces : List (ℕ × List ℕ)) : Type 0 where
  state : State
  leads : RunsWithoutFault labels from lines state
  puts : state.pieces ≡ pieces

fault_cons : (labels : Labels) (number : ℕ) (from : State) (line : List ℕ) (lines : List (List ℕ)) (refusal : SourceFault) → line_fault labels from line ≡ None
    → FaultFrom labels (number + 1) (state_after labels from line) lines refusal → FaultFrom labels number from (line ∷ lines) refusal
fault_cons labels number from line lines refusal clean f = record {
  front = line ∷ f.front;
  line = f.line;
  rest = f.rest;
  state = f.state;
  parts = ap (λ l. line ∷ l) f.parts;
  counts = omega (arith, f.counts);
  leads = (clean, f.leads);
  faulty = f.faulty;
  about = f.about;
}

err_same : {X : Type 0} (a b : SourceFault) (x y : Result X SourceFault) → x ≡ Err a → y ≡ Err b → x ≡ y → a ≡ b
err_same a b x y p q e = cc

-- what the verdict of a line decides
by_verdict : (labels : Labels) (number : ℕ) (from : State) (line : List ℕ) (lines : List (List ℕ)) (refusal : SourceFault) (v : Option Fault) → line_fault labels from line ≡ v
    → (source_from labels (number + 1) (state_after labels from line) lines ≡ Err refusal → FaultFrom labels (number + 1) (state_after labels from line) lines refusal)
    → unless_fault (fault_at labels number from line) v (source_from labels (number + 1) (state_after labels from line) lines) ≡ Err refusal → FaultFrom labels number from (line ∷ lines) refusal
by_verdict labels number from line lines refusal None e later h = fault_cons labels number from line lines refusal e (later h)
by_verdict labels number from line lines refusal (Some first) e later h =
    let told = fault_at labels number from line first in
    let same : told ≡ refusal = err_same {X = List (ℕ × List ℕ)} told refusal (Err told) (Err refusal) refl refl h in
    let fault : first ≡ refusal.fault = ap (λ r. r.fault) same in
    let place : refusal.line ≡ number = sym (ap (λ r. r.line) same) in
    let word : refusal.word ≡ word_at_fault labels from.place line first = sym (ap (λ r. r.word) same) in
    record {
      front = [];
      line = line;
      rest = lines;
      state = from;
      parts = refl;
      counts = omega (arith, place);
      leads = refl;
      faulty = e ∙ ap (λ f. Some f) fault;
      about = word ∙ ap (word_at_fault labels from.place line) fault;
    }

fault_from : (labels : Labels) (number : ℕ) (from : State) (lines : List (List ℕ)) (refusal : SourceFault) → source_from labels number from lines ≡ Err refusal → FaultFrom labels number from lines refusal
fault_from labels number from [] refusal h = absurd cc
fault_from labels number from (line ∷ lines) refusal h =
    by_verdict labels number from line lines refusal (line_fault labels from line) refl (fault_from labels (number + 1) (state_after labels from line) lines refusal) h

by_clean : (labels : Labels) (number : ℕ) (from : State) (line : List ℕ) (lines : List (List ℕ)) (pieces : List (ℕ × List ℕ)) (v : Option Fault) → line_fault labels from line ≡ v
    → (source_from labels (number + 1) (state_after labels from line) lines ≡ Ok pieces → ProgramFrom labels (state_after labels from line) lines pieces)
    → unless_fault (fault_at labels number from line) v (source_from labels (number + 1) (state_after labels from line) lines) ≡ Ok pieces → ProgramFrom labels from (line ∷ lines) pieces
by_clean labels number from line lines pieces None e later h = let p = later h in record { state = p.state; leads = (e, p.leads); puts = p.puts }
by_clean labels number from line lines pieces (Some first) e later h = absurd cc

program_from : (labels : Labels) (number : ℕ) (from : State) (lines : List (List ℕ)) (pieces : List (ℕ × List ℕ)) → source_from labels number from lines ≡ Ok pieces → ProgramFrom labels from lines pieces
program_from labels number from [] pieces h = record { state = from; leads = refl; puts = cc }
program_from labels number from (line ∷ lines) pieces h =
    by_clean labels number from line lines pieces (line_fault labels from line) refl (program_from labels (number + 1) (state_after labels from line) lines pieces) h

-- and the other way round
leads_source : (labels : Labels) (number : ℕ) (from to : State) (front rest : List (List ℕ)) → RunsWithoutFault labels from front to
    → source_from labels number from (front ++ rest) ≡ source_from labels (number + length front) to rest
leads_source labels number from to [] rest h = let e : number ≡ number + 0 = omega arith in ap (λ s. source_from labels number s rest) h ∙ ap (λ n. source_from labels n to rest) e
leads_source labels number from to (line ∷ front) rest h =
    let e : number + 1 + length front ≡ number + length (line ∷ front) = omega arith in
    ap (λ v. unless_fault (fault_at labels number from line) v (source_from labels (number + 1) (state_after labels from line) (front ++ rest))) h.0
    ∙ leads_source labels (number + 1) (state_after labels from line) to front rest h.1 ∙ ap (λ n. source_from labels n to rest) e

pub fault_is_first : (text : List ℕ) (refusal : SourceFault) → source_of text ≡ Err refusal → IsFirstFault text refusal
unfolding source_of
fault_is_first text refusal h =
    let f = fault_from (all_labels text) 1 initial_state (lines_of text) refusal h in
    record { front = f.front; line = f.line; rest = f.rest; state = f.state; parts = f.parts; counts = f.counts; leads = f.leads; faulty = f.faulty; about = f.about }

pub first_is_fault : (text : List ℕ) (refusal : SourceFault) → IsFirstFault text refusal → source_of text ≡ Err refusal
unfolding source_of
first_is_fault text refusal f =
    let labels = all_labels text in
    ap (source_from labels 1 initial_state) f.parts ∙ leads_source labels 1 initial_state f.state f.front (f.line ∷ f.rest) f.leads
    ∙ ap (λ v. unless_fault (fault_at labels (1 + length f.front) f.state f.line) v (source_from labels (1 + length f.front + 1) (state_after labels f.state f.line) f.rest)) f.faulty
    ∙ ap (λ n. Err (source_fault refusal.fault n (word_at_fault labels f.state.place f.line refusal.fault))) (sym f.counts)
    ∙ ap (λ w. Err (source_fault refusal.fault refusal.line w)) (sym f.about)

pub program_is : (text : List ℕ) (pieces : List (ℕ × List ℕ)) → source_of text ≡ Ok pieces → IsProgram text pieces
unfolding source_of
program_is text pieces h =
    let p = program_from (all_labels text) 1 initial_state (lines_of text) pieces h in
    record { state = p.state; leads = p.leads; puts = p.puts }
