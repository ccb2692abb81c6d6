-- The statuses of the checks of a recorded run, and of a command's own.
use Rattle.std.proofs.Common.{◌≡◌, ℕ, List, Option, Some, None, sym, ap, arith, inl, inr}
use Rattle.or_elf.specs.declared.symbol_fault.SymFault.{SymFault}
use Rattle.or_elf.specs.declared.symbol_fault.SymFault.TheVariants.{BadSections, BadTable, BadName, NoMemory as NoMemoryForSymbols}
use Rattle.or_script.specs.declared.fault.ScriptFault.{ScriptFault}
use Rattle.or_script.specs.declared.fault.ScriptFault.TheVariants.{BadCommand, OutOfRange, NoMemory as NoMemoryForScript}
use Rattle.or_recorded.specs.declared.refused.OwnFault.{OwnFault}
use Rattle.or_recorded.specs.declared.refused.OwnFault.TheVariants.{Symbols, Script, NoMemory as NoMemoryForOwn}
use Rattle.or_recorded.specs.Files.{Names}
use Rattle.or_recorded.specs.Refused.{schedule_told, schedule_check, text_check, turn_detail, fault_check, fault_told, symbols_check, script_told, script_check, named_script_check, own_check}
use Rattle.or_recorded.specs.Command.{Run, Verdict}
use Rattle.or_command.specs.declared.refusal.ScheduleDetail.{ScheduleDetail}
use Rattle.or_command.specs.declared.refusal.ScheduleDetail.TheVariants as detail
use Rattle.or_command.specs.Ends.{FailedCheck}
use Rattle.or_command.specs.Carried.{IsCarriedOut}
use Rattle.or_elf.specs.declared.fault.ElfFault.{ElfFault}
use Rattle.or_command_image.specs.Loaded.{image_told}
use Rattle.or_sched.specs.declared.recording.RecFault.{RecFault}
use Rattle.or_sched.specs.declared.recording.RecFault.TheVariants.{BadHead, BadRun, Short, NoMemory as NoMemoryToRead}
use Rattle.or_command_line.specs.Names.{Recorded}
use Rattle.or_recorded.specs.declared.checked.RunFault.{RunFault}
use Rattle.or_recorded.specs.declared.checked.RunFault.TheVariants.{Text, NoMemoryForText, Image, Input, Elf, Turns, NoMemory}

-- the status of a check that is given
status_is : (told check : FailedCheck) → Some told ≡ Some check → check.status ≡ told.status
status_is told check e = let same : told ≡ check = cc in sym (ap (λ (c : FailedCheck). c.status) same)

of_schedule : (name : List ℕ) (detail : ScheduleDetail) (check : FailedCheck) → schedule_check name detail ≡ Some check → IsCarriedOut check.status
of_schedule name detail check told = let four = status_is (schedule_told name detail) check told in (λ two. absurd (omega (arith, four, two)), λ same. absurd (omega (arith, four, same)))

of_text : (name : List ℕ) (fault : RecFault) (check : FailedCheck) → text_check name fault ≡ Some check → IsCarriedOut check.status
of_text name (BadHead line) check told = of_schedule name (detail.Head line) check told
of_text name (BadRun at) check told = of_schedule name (detail.At at) check told
of_text name Short check told = of_schedule name detail.Short check told
of_text name NoMemoryToRead check told = absurd (let b : ⊥ = cc in b)

of_image : (name : List ℕ) (fault : ElfFault) (check : FailedCheck) → Some (image_told name fault) ≡ Some check → IsCarriedOut check.status
of_image name fault check told = let three = status_is (image_told name fault) check told in (λ two. absurd (omega (arith, three, two)), λ same. absurd (omega (arith, three, same)))

of_fault : (names : Recorded) (fault : RunFault) (check : FailedCheck) → fault_check names fault ≡ Some check → IsCarriedOut check.status
of_fault names (Text fault) check told = of_text names.schedule fault check told
of_fault names (Image digests) check told = of_schedule names.schedule (detail.Image digests) check told
of_fault names (Input digests) check told = of_schedule names.schedule (detail.Input digests) check told
of_fault names (Elf fault) check told = of_image names.image fault check told
of_fault names (Turns fault) check told = of_schedule names.schedule (turn_detail fault) check told
of_fault names NoMemoryForText check told = absurd (let b : ⊥ = cc in b)
of_fault names NoMemory check told = absurd (let b : ⊥ = cc in b)

twelve : (name : List ℕ) (fault : SymFault) (check : FailedCheck) → Some (fault_told name fault) ≡ Some check → IsCarriedOut check.status
twelve name fault check told = let status = status_is (fault_told name fault) check told in (λ two. absurd (omega (arith, status, two)), λ same. absurd (omega (arith, status, same)))

of_symbols : (name : List ℕ) (fault : SymFault) (check : FailedCheck) → symbols_check name fault ≡ Some check → IsCarriedOut check.status
of_symbols name (BadSections field) check told = twelve name (BadSections field) check told
of_symbols name (BadTable index) check told = twelve name (BadTable index) check told
of_symbols name (BadName index) check told = twelve name (BadName index) check told
of_symbols name NoMemoryForSymbols check told = absurd (let b : ⊥ = cc in b)

ten : (name : List ℕ) (number line : ℕ) (fault : ScriptFault) (check : FailedCheck) → Some (script_told name number line fault) ≡ Some check → IsCarriedOut check.status
ten name number line fault check told = let status = status_is (script_told name number line fault) check told in (λ two. absurd (omega (arith, status, two)), λ same. absurd (omega (arith, status, same)))

of_script : (name : List ℕ) (fault : ScriptFault) (check : FailedCheck) → script_check name fault ≡ Some check → IsCarriedOut check.status
of_script name (BadCommand line) check told = ten name 1 line (BadCommand line) check told
of_script name (OutOfRange line) check told = ten name 2 line (OutOfRange line) check told
of_script name NoMemoryForScript check told = absurd (let b : ⊥ = cc in b)

of_named_script : (name : Option (List ℕ)) (fault : ScriptFault) (check : FailedCheck) → named_script_check name fault ≡ Some check → IsCarriedOut check.status
of_named_script None fault check told = absurd (let b : ⊥ = cc in b)
of_named_script (Some name) fault check told = of_script name fault check told

of_own : (names : Names) (own : OwnFault) (check : FailedCheck) → own_check names own ≡ Some check → IsCarriedOut check.status
of_own names (Symbols fault) check told = of_symbols names.run.image fault check told
of_own names (Script fault) check told = of_named_script names.script fault check told
of_own names NoMemoryForOwn check told = absurd (let b : ⊥ = cc in b)

-- no command on a recorded run has a check of status 2 or 16
pub command_carried : (fault : Run → Option OwnFault) (Makes : Run → List ℕ → List ℕ → Type 0) (names : Names) (read : List (List ℕ)) (check : FailedCheck)
    → Verdict fault Makes names read (Some check) → IsCarriedOut check.status
command_carried fault Makes names read check (inl refused) = of_fault names.run refused.fault check refused.told
command_carried fault Makes names read check (inr refused) = of_own names refused.own check refused.told
