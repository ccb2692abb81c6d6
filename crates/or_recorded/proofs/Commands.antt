-- From the check that fails of a command on a recorded run to the command's outcome.
use Rattle.std.proofs.Common.{◌≡◌, ◌≢◌, refl, sym, subst, ℕ, List, [], ◌∷◌, ◌++◌, Bool, true, false, cond, Option, Some, None, inl, inr}
use Rattle.std.specs.Prelude.{IfSome}
use Rattle.or_host.specs.HostState.{HostState}
use Rattle.or_command.specs.Loads.{Load}
use Rattle.or_command.specs.Writes.{File}
use Rattle.or_command.specs.Ends.{FailedCheck, CommandEnd}
use Rattle.or_command.specs.Outcomes.{AreApart}
use Rattle.or_command.specs.Finishing.{EndsAfterLoad, end_of_check}
use Rattle.or_command_line.specs.Names.{Recorded, IsReport}
use Rattle.or_words.specs.declared.limits.TheConstants.{INPUT_LIMIT, RECORDING_LIMIT}
use Rattle.or_command_line.specs.Words.{is_no_file}
use Rattle.or_recorded.specs.declared.refused.OwnFault.{OwnFault}
use Rattle.or_recorded.specs.declared.refused.OwnFault.TheVariants.{Symbols, Script, NoMemory}
use Rattle.or_recorded.specs.declared.refused.Fault.{Fault}
use Rattle.or_recorded.specs.declared.refused.Fault.TheVariants.{OfRun, Own}
use Rattle.or_recorded.specs.Files.{Names, Files, files_in, loads, script_loads, outs_of, AreNames}
use Rattle.or_recorded.specs.Refused.{own_check, Fails}
use Rattle.or_recorded.specs.Command.{Run, IsFault, Judged, Verdict, Writes, told_check}

-- ---- the report is none of the files that are loaded
pub apart_none : (loads : List Load) → AreApart loads []
apart_none [] = tt
apart_none (load ∷ loads) = (tt, apart_none loads)

all_apart : (loads : List Load) (no_report : Bool) (report text : List ℕ) → (no_report ≡ false → AreApart loads (record { name = report; text = text } ∷ []))
    → AreApart loads (cond no_report [] (record { name = report; text = text } ∷ []))
all_apart loads true report text is = apart_none loads
all_apart loads false report text is = is refl

script_apart : (script : Option (List ℕ)) (report text : List ℕ) → IfSome script (λ name. report ≢ name) → AreApart (script_loads script) (record { name = report; text = text } ∷ [])
script_apart None report text is = tt
script_apart (Some name) report text is = ((λ e. is (sym e), tt), tt)

loads_apart : (dash : Bool) (run : Recorded) (script : Option (List ℕ)) (report text : List ℕ) → is_no_file report ≡ false → IsReport run report → IfSome script (λ name. report ≢ name)
    → AreApart ((cond dash [] (record { name = run.input; limit = INPUT_LIMIT } ∷ []) ++ record { name = run.schedule; limit = RECORDING_LIMIT } ∷ []) ++ script_loads script)
    (record { name = report; text = text } ∷ [])
loads_apart true run script report text named is other = ((λ e. is.schedule named (sym e), tt), script_apart script report text other)
loads_apart false run script report text named is other = ((λ e. is.input named (sym e), tt), ((λ e. is.schedule named (sym e), tt), script_apart script report text other))

outs_apart : (run : Recorded) (script report : Option (List ℕ)) (text : List ℕ) → IfSome report (IsReport run) → IfSome report (λ name. IfSome script (λ script. name ≢ script))
    → AreApart (loads (record { run = run; script = script; report = report })) (outs_of report text)
outs_apart run script None text is other = apart_none (loads (record { run = run; script = script; report = None }))
outs_apart run script (Some name) text is other =
    all_apart (loads (record { run = run; script = script; report = Some name })) (is_no_file name) name text
    (λ named. ((λ e. is.image named (sym e), tt), loads_apart (is_no_file run.input) run script name text named is other))

-- a command on a recorded run
module _ (fault : Run → Option OwnFault) (Makes : Run → List ℕ → List ℕ → Type 0) (names : Names) where
  pub apart_of : AreNames names → (read : List (List ℕ)) (outs : List File) (console : List ℕ) → Writes fault Makes names read outs console → AreApart (loads names) outs
  apart_of are read outs console writes =
      subst (AreApart (loads names)) (sym writes.outputs) (outs_apart names.run names.script names.report writes.report are.report are.apart)

  -- ---- a check that fails
  told_fails : (own : OwnFault) (found : Option OwnFault) (check : FailedCheck) → own_check names own ≡ Some check → Fails own found → found ≡ Some own
  told_fails (Symbols symbols) found check told fails = fails
  told_fails (Script script) found check told fails = fails
  told_fails NoMemory found check told fails = absurd (let b : ⊥ = cc in b)

  fails : (files : Files) (f : Fault) (check : FailedCheck) → told_check names f ≡ Some check → IsFault fault Makes files f → Judged fault Makes names files (Some check)
  fails files (OfRun first) check told is = inl (record { fault = first; first = is; told = told })
  fails files (Own own) check told is = inr (record { run = is.run; is = is.is; own = own; fails = told_fails own (fault is.run) check told is.fails; told = told })

  ends_by : (read : List (List ℕ)) (f : Fault) (found : Option FailedCheck) (end : CommandEnd) (b : HostState) → told_check names f ≡ found
      → IsFault fault Makes (files_in names read) f → end ≡ end_of_check found → EndsAfterLoad (Verdict fault Makes names) (Writes fault Makes names) read end b b
  ends_by read f None end b told is same = subst (λ (e : CommandEnd). EndsAfterLoad (Verdict fault Makes names) (Writes fault Makes names) read e b b) (sym same) refl
  ends_by read f (Some check) end b told is same =
      subst (λ (e : CommandEnd). EndsAfterLoad (Verdict fault Makes names) (Writes fault Makes names) read e b b) (sym same) (fails (files_in names read) f check told is, refl)

  pub refused_ends : (read : List (List ℕ)) (files : Files) (f : Fault) (end : CommandEnd) (b : HostState) → files ≡ files_in names read
      → IsFault fault Makes files f → end ≡ end_of_check (told_check names f) → EndsAfterLoad (Verdict fault Makes names) (Writes fault Makes names) read end b b
  refused_ends read files f end b same is ends =
      ends_by read f (told_check names f) end b refl (subst (λ (x : Files). IsFault fault Makes x f) same is) ends
