-- From the parts of a run to its outcome.
use Rattle.std.proofs.Common.{◌≡◌, ℕ, ◌≤◌, List, [], ◌∷◌, length, Some, None, Bool, true, false, cond, sym, ap, subst, arith}
use Rattle.std.specs.Prelude.{◌&&◌, ◌==◌}
use Rattle.or_words.specs.declared.Config.{Config}
use Rattle.or_words.specs.Settings.{ram_bytes}
use Rattle.or_elf.specs.Fault.{elf_fault}
use Rattle.or_command.specs.Writes.{File}
use Rattle.or_command.specs.Ends.{FailedCheck}
use Rattle.or_command.specs.Carried.{IsCarriedOut}
use Rattle.or_command.specs.Outcomes.{AreApart}
use Rattle.or_command_image.specs.Loaded.{image_in}
use Rattle.or_command_image.specs.Written.{written_files}
use Rattle.or_command_image.proofs.Headers.{sound_is_long}
use Rattle.or_command_image.proofs.Images.{image_small, image_status, written_apart}
use Rattle.or_command_line.specs.Names.{Names, AreWritten}
use Rattle.or_command_run.specs.Run.{run_loads, run_check, RunWrites, run_status}

-- what a run writes is none of what it loads
run_apart : (names : Names) (recording report : List ℕ) → AreWritten names → AreApart (run_loads names) (written_files names.schedule recording names.report report)
run_apart names recording report written =
    written_apart names.image names.input names.schedule recording names.report report written.schedule.image written.schedule.input written.report.image written.report.input

pub apart_of : (names : Names) (config : Config) (failed : Bool) (lines : List ℕ) → AreWritten names → (files : List (List ℕ)) (outs : List File) (console : List ℕ)
    → RunWrites names config failed lines files outs console
    → AreApart (run_loads names) outs
apart_of names config failed lines written files outs console writes = subst (AreApart (run_loads names)) (sym writes.outputs) (run_apart names writes.recording writes.report written)

-- no check of a run has status 2 or 16
pub run_carried : (names : Names) (config : Config) (files : List (List ℕ)) (fault : FailedCheck) → run_check names config files ≡ Some fault → IsCarriedOut fault.status
run_carried names config files fault found =
    let three = image_status names.image (elf_fault (image_in files) (ram_bytes config)) fault found in (λ two. absurd (omega (arith, three, two)), λ same. absurd (omega (arith, three, same)))

other_status : (failed : Bool) (status : ℕ) → IsCarriedOut status → IsCarriedOut (cond failed 15 status)
other_status true status other = (λ two. absurd (omega (arith, two)), λ same. absurd (omega (arith, same)))
other_status false status other = other

-- 15 in place of 0 is no 2 and no 16
pub run_status_carried : (asked failed : Bool) (status : ℕ) → IsCarriedOut status → IsCarriedOut (run_status asked failed status)
run_status_carried asked failed status other = other_status ((asked && failed) && status == 0) status other

pub ruleset runs = (image_small, sound_is_long)
