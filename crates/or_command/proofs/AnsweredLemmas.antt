-- From what a command came to, to what it answers.
use Rattle.std.proofs.Common.{◌≡◌, ◌∙◌, sym, ap, subst, ℕ, List, [], Option, Some, inl, inr, arith}
use Rattle.or_host.specs.HostState.{HostState}
use Rattle.or_command.specs.Leaves.{Silent}
use Rattle.or_command.specs.Writes.{File}
use Rattle.or_command.specs.Loads.{Load, LoadsAll}
use Rattle.or_command.specs.Said.{OnlySays, SaidLine}
use Rattle.or_command.specs.Ends.{FailedCheck, CommandEnd, done, unread, too_long, refused, unwritten, no_memory, status_of, lines_of}
use Rattle.or_command.specs.Outcomes.{LeavesAll, AreApart, OutcomeBy, Computes, CommandOutcome}
use Rattle.or_command.specs.Carried.{IsCarriedOut}
use Rattle.or_command.specs.Answered.{AnswersBy, IsDecidedBy, Answers, IsDecided, FinishEnds}
use Rattle.or_command.proofs.OutcomesLemmas.{concluded_by}
use Rattle.or_command.proofs.FinishingLemmas.{loaded_goes_on}
use Rattle.or_command.proofs.CompleteLemmas.{complete_by, complete, long_file_decides_by}

-- a command as in Outcomes
module _ (loads : List Load) (Verdict : List (List ℕ) → Option FailedCheck → Type 0) (Writes : List (List ℕ) → List File → List ℕ → Type 0)
    (OnNoMemory : HostState → HostState → Type 0) where
  -- a command's work, then its line and its status
  pub answered_by : (end : CommandEnd) (status : ℕ) (a b c : HostState) → (OnNoMemory a b → OnNoMemory a c) → status ≡ status_of end
      → OutcomeBy loads Verdict Writes OnNoMemory end a b → Silent a b → SaidLine (lines_of end) b c → OnlySays b c
      → AnswersBy loads Verdict Writes OnNoMemory status a c
  answered_by end status a b c lacking is outcome silent line only =
      record { end = end; status_is = is; runs = concluded_by loads Verdict Writes OnNoMemory end a b c lacking outcome silent line only }

  -- where no fault came, the files decide the status
  pub decided_by : (status : ℕ) (a c : HostState) → AnswersBy loads Verdict Writes OnNoMemory status a c → IsDecidedBy loads Verdict Writes OnNoMemory status a c
  decided_by status a c answers = record {
    by_files = λ files told sound. elim (complete_by loads Verdict Writes OnNoMemory answers.end a c files answers.runs.outcome told sound) [
      | inl e ↦ inl (record { end = answers.end; is_end = e; status_is = answers.status_is })
      | inr e ↦ inr (answers.status_is ∙ ap status_of e.0, e.1)
    ];
    by_long = λ long sound. elim (long_file_decides_by loads Verdict Writes OnNoMemory answers.end a c long.front long.load long.rest long.before long.file
        answers.runs.outcome long.order long.told long.fit long.held long.over sound) [
          | inl e ↦ inl (answers.status_is ∙ ap status_of e)
          | inr e ↦ inr (answers.status_is ∙ ap status_of e.0, e.1)
        ];
  }

  end_carried : (end : CommandEnd) (a c : HostState) → ((files : List (List ℕ)) (fault : FailedCheck) → Verdict files (Some fault) → IsCarriedOut fault.status)
      → OutcomeBy loads Verdict Writes OnNoMemory end a c → IsCarriedOut (status_of end)
  end_carried done a c other outcome = (λ two. absurd (omega (arith, two)), λ same. absurd (omega (arith, same)))
  end_carried (unread name) a c other outcome = (λ two. absurd (omega (arith, two)), λ same. absurd (omega (arith, same)))
  end_carried (too_long name limit) a c other outcome = (λ two. absurd (omega (arith, two)), λ same. absurd (omega (arith, same)))
  end_carried (refused fault) a c other outcome = other outcome.files fault outcome.found
  end_carried (unwritten name) a c other outcome = (λ two. absurd (omega (arith, two)), λ same. absurd (omega (arith, same)))
  end_carried no_memory a c other outcome = (λ two. absurd (omega (arith, two)), λ same. absurd (omega (arith, same)))

  -- no check has status 2 or 16, so a command answers neither
  pub carried_by : (status : ℕ) (a c : HostState) → ((files : List (List ℕ)) (fault : FailedCheck) → Verdict files (Some fault) → IsCarriedOut fault.status)
      → AnswersBy loads Verdict Writes OnNoMemory status a c → IsCarriedOut status
  carried_by status a c other answers = subst IsCarriedOut (sym answers.status_is) (end_carried answers.end a c other answers.runs.outcome)

-- the same of a command whose verdict is a function of its files
module _ (loads : List Load) (verdict : List (List ℕ) → Option FailedCheck) (Writes : List (List ℕ) → List File → List ℕ → Type 0)
    (OnNoMemory : HostState → HostState → Type 0) where
  pub answered : (end : CommandEnd) (status : ℕ) (a b c : HostState) → (OnNoMemory a b → OnNoMemory a c) → status ≡ status_of end
      → CommandOutcome loads verdict Writes OnNoMemory end a b → Silent a b → SaidLine (lines_of end) b c → OnlySays b c
      → Answers loads verdict Writes OnNoMemory status a c
  answered end status a b c lacking is outcome silent line only =
      answered_by loads (Computes verdict) Writes OnNoMemory end status a b c lacking is outcome silent line only

  pub decided : (status : ℕ) (a c : HostState) → Answers loads verdict Writes OnNoMemory status a c → IsDecided loads verdict Writes OnNoMemory status a c
  decided status a c answers = record {
    by_files = λ files told sound. elim (complete loads verdict Writes OnNoMemory answers.end a c files answers.runs.outcome told sound) [
      | inl e ↦ inl (answers.status_is ∙ ap status_of e)
      | inr e ↦ inr (answers.status_is ∙ ap status_of e.0, e.1)
    ];
    by_long = (decided_by loads (Computes verdict) Writes OnNoMemory status a c answers).by_long;
  }

  pub carried : (status : ℕ) (a c : HostState) → ((files : List (List ℕ)) (fault : FailedCheck) → verdict files ≡ Some fault → IsCarriedOut fault.status)
      → Answers loads verdict Writes OnNoMemory status a c → IsCarriedOut status
  carried status a c other answers = carried_by loads (Computes verdict) Writes OnNoMemory status a c other answers

-- such a command that leaves all as it was where memory ran out, and writes no file that it loads
module _ (loads : List Load) (verdict : List (List ℕ) → Option FailedCheck) (Writes : List (List ℕ) → List File → List ℕ → Type 0)
    (apart : (files : List (List ℕ)) (outs : List File) (console : List ℕ) → Writes files outs console → AreApart loads outs) where
  -- it goes on with the files that it has loaded into an empty list
  pub goes_on : (held kept : List (List ℕ)) (end : CommandEnd) (a b c : HostState) → held ≡ [] → LoadsAll loads held kept a b
      → FinishEnds verdict Writes kept end b c → CommandOutcome loads verdict Writes LeavesAll end a c
  goes_on held kept end a b c none all ends = loaded_goes_on loads (Computes verdict) Writes apart held kept end a b c none all ends
