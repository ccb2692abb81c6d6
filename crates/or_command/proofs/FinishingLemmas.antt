-- From what a command does with its files to its outcome.
use Rattle.std.proofs.Common.{◌≡◌, ◌∙◌, sym, ap, subst, refl, ℕ, List, [], ◌++◌, Option, None, inr}
use Rattle.or_host.specs.HostState.{HostState}
use Rattle.or_command.specs.Writes.{File}
use Rattle.or_command.specs.Loads.{Load, AllRead, LoadsAll}
use Rattle.or_command.specs.Ends.{FailedCheck, CommandEnd, done, unread, too_long, refused, unwritten, no_memory}
use Rattle.or_command.specs.Outcomes.{LeavesAll, LacksMemory, AreApart, OutcomeBy}
use Rattle.or_command.specs.Finishing.{WriteEnds, EndsAfterLoad, IfNoMemory}
use Rattle.or_command.specs.Answered.{Stops}
use Rattle.or_command.proofs.OutcomesLemmas.{done_by, unwritten_by, refusal_by}

-- a write takes no memory
pub written_passed : (files : List File) (console : List ℕ) (end : CommandEnd) (a b : HostState) (Fact : Type 0) → WriteEnds files console end a b → IfNoMemory end Fact
written_passed files console done a b Fact ends = tt
written_passed files console (unwritten name) a b Fact ends = tt
written_passed files console (unread name) a b Fact ends = tt
written_passed files console (too_long name limit) a b Fact ends = tt
written_passed files console (refused fault) a b Fact ends = tt
written_passed files console no_memory a b Fact ends = absurd ends

-- where a check stops a command for want of memory, it does not fail
pub stops_passed : (verdict : Option FailedCheck) (end : CommandEnd) → Stops verdict end → IfNoMemory end (verdict ≡ None)
stops_passed verdict done stops = tt
stops_passed verdict (unwritten name) stops = tt
stops_passed verdict (unread name) stops = tt
stops_passed verdict (too_long name limit) stops = tt
stops_passed verdict (refused fault) stops = tt
stops_passed verdict no_memory stops = stops

-- a command that writes no file that it loads
module _ (loads : List Load) (Verdict : List (List ℕ) → Option FailedCheck → Type 0) (Writes : List (List ℕ) → List File → List ℕ → Type 0)
    (apart : (files : List (List ℕ)) (outs : List File) (console : List ℕ) → Writes files outs console → AreApart loads outs) where
  goes_on : (OnNoMemory : HostState → HostState → Type 0) (files : List (List ℕ)) (end : CommandEnd) (a b c : HostState) → AllRead loads files a b
      → (end ≡ no_memory → OnNoMemory a b) → EndsAfterLoad Verdict Writes files end b c → OutcomeBy loads Verdict Writes OnNoMemory end a c
  goes_on OnNoMemory files done a b c all lacking ends =
      done_by loads Verdict Writes OnNoMemory files ends.outs ends.console a b c (apart files ends.outs ends.console ends.writes) all ends.sound ends.writes ends.ends
  goes_on OnNoMemory files (unwritten name) a b c all lacking ends =
      unwritten_by loads Verdict Writes OnNoMemory files ends.outs ends.console name a b c (apart files ends.outs ends.console ends.writes) all ends.sound ends.writes ends.ends
  goes_on OnNoMemory files (refused fault) a b c all lacking ends =
      subst (λ (s : HostState). OutcomeBy loads Verdict Writes OnNoMemory (refused fault) a s) (sym ends.1)
      (refusal_by loads Verdict Writes OnNoMemory files fault a b all ends.0)
  goes_on OnNoMemory files no_memory a b c all lacking ends = subst (λ (s : HostState). OnNoMemory a s) (sym ends) (lacking refl)
  goes_on OnNoMemory files (unread name) a b c all lacking ends = absurd ends
  goes_on OnNoMemory files (too_long name limit) a b c all lacking ends = absurd ends

  kept_all : (held kept : List (List ℕ)) (a b : HostState) → held ≡ [] → (all : LoadsAll loads held kept a b) → kept ≡ all.files
  kept_all held kept a b none all = all.stands ∙ ap (λ l. l ++ all.files) none

  -- The files were loaded into an empty list. Where memory runs out, it leaves all as it was.
  pub loaded_goes_on : (held kept : List (List ℕ)) (end : CommandEnd) (a b c : HostState) → held ≡ [] → LoadsAll loads held kept a b
      → EndsAfterLoad Verdict Writes kept end b c → OutcomeBy loads Verdict Writes LeavesAll end a c
  loaded_goes_on held kept end a b c none all ends =
      goes_on LeavesAll all.files end a b c all.all (λ _. record { untouched = all.all.untouched; no_fault = all.all.no_fault })
      (subst (λ (files : List (List ℕ)). EndsAfterLoad Verdict Writes files end b c) (kept_all held kept a b none all) ends)

  at_no_memory : (end : CommandEnd) (Fact : Type 0) → IfNoMemory end Fact → end ≡ no_memory → Fact
  at_no_memory end Fact holds is = subst (λ (e : CommandEnd). IfNoMemory e Fact) is holds

  -- Where memory runs out, the checks that were made before pass.
  pub loaded_goes_behind : (Passed : List (List ℕ) → Type 0) (held kept : List (List ℕ)) (end : CommandEnd) (a b c : HostState) → held ≡ []
      → LoadsAll loads held kept a b → EndsAfterLoad Verdict Writes kept end b c → IfNoMemory end (Passed kept)
      → OutcomeBy loads Verdict Writes (LacksMemory loads Passed) end a c
  loaded_goes_behind Passed held kept end a b c none all ends passed =
      let same = kept_all held kept a b none all in
      goes_on (LacksMemory loads Passed) all.files end a b c all.all
      (λ is. record {
        left = record { untouched = all.all.untouched; no_fault = all.all.no_fault };
        cause = inr (record { files = all.files; read = all.all.read; passed = subst Passed same (at_no_memory end (Passed kept) passed is) });
      })
      (subst (λ (files : List (List ℕ)). EndsAfterLoad Verdict Writes files end b c) same ends)
