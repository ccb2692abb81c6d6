-- What commands have in common that load an image and write a recording and a report.
use Rattle.std.proofs.Common.{◌≡◌, ◌≢◌, ℕ, ◌≤◌, List, [], ◌∷◌, ◌++◌, length, Some, None, Bool, true, false, cond, refl, sym, ap}
use Rattle.std.specs.Prelude.{Option}
use Rattle.or_words.specs.declared.limits.TheConstants.{INPUT_LIMIT}
use Rattle.or_elf.specs.declared.fault.ElfFault.{ElfFault}
use Rattle.or_host.specs.HostState.{HostState}
use Rattle.or_command.specs.Loads.{AreRead}
use Rattle.or_command_line.specs.Words.{is_no_file, AreDifferent}
use Rattle.or_command.specs.Writes.{IsOther}
use Rattle.or_command.specs.Ends.{FailedCheck}
use Rattle.or_command.specs.Outcomes.{AreApart}
use Rattle.or_command_image.specs.Loaded.{image_loads, image_in, image_told, image_check}
use Rattle.or_command_image.specs.Written.{written_files}

-- an image that was read is within its limit
pub image_small : (image input : List ℕ) (files : List (List ℕ)) (state : HostState) → AreRead (image_loads image input) files state → length (image_in files) ≤ 67108864
image_small image input [] state read = absurd read
image_small image input (file ∷ files) state read = read.1

-- the files of a recording and a report have other names than this
other_written : (no_schedule no_report : Bool) (name schedule recording report text : List ℕ) → (no_schedule ≡ false → schedule ≢ name) → (no_report ≡ false → report ≢ name)
    → IsOther name (cond no_schedule [] (record { name = schedule; text = recording } ∷ []) ++ cond no_report [] (record { name = report; text = text } ∷ []))
other_written true true name schedule recording report text one other = tt
other_written true false name schedule recording report text one other = (λ e. other refl (sym e), tt)
other_written false true name schedule recording report text one other = (λ e. one refl (sym e), tt)
other_written false false name schedule recording report text one other = (λ e. one refl (sym e), (λ e. other refl (sym e), tt))

input_apart : (dash : Bool) (input schedule recording report text : List ℕ) → AreDifferent schedule input → AreDifferent report input
    → AreApart (cond dash [] (record { name = input; limit = INPUT_LIMIT } ∷ [])) (written_files schedule recording report text)
input_apart true input schedule recording report text one other = tt
input_apart false input schedule recording report text one other = (other_written (is_no_file schedule) (is_no_file report) input schedule recording report text one other, tt)

-- are none of the files that are loaded
pub written_apart : (image input schedule recording report text : List ℕ) → AreDifferent schedule image → AreDifferent schedule input → AreDifferent report image → AreDifferent report input
    → AreApart (image_loads image input) (written_files schedule recording report text)
written_apart image input schedule recording report text schedule_image schedule_input report_image report_input = (
  other_written (is_no_file schedule) (is_no_file report) image schedule recording report text schedule_image report_image,
  input_apart (is_no_file input) input schedule recording report text schedule_input report_input,
)

-- the check of an image has status 3
pub image_status : (name : List ℕ) (found : Option ElfFault) (fault : FailedCheck) → image_check name found ≡ Some fault → fault.status ≡ 3
image_status name None fault e = absurd (let b : ⊥ = cc in b)
image_status name (Some found) fault e =
    let same : image_told name found ≡ fault = cc in sym (ap (λ (f : FailedCheck). f.status) same)
