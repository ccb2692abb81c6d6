-- From the parts of a replay to its report.
use Rattle.std.proofs.Common.{◌≡◌, ◌∙◌, sym, ap, subst, ℕ, List, length}
use Rattle.or_parts.specs.Devices.{console_of}
use Rattle.or_model.specs.Core.{Core}
use Rattle.or_model.specs.Turn.{Board}
use Rattle.or_bus.specs.State.{BusState}
use Rattle.or_bus.specs.Represents.{Represents}
use Rattle.or_replay.specs.Report.{report_text}
use Rattle.or_command_image.specs.Written.{made_for}
use Rattle.or_recorded.specs.declared.checked.Checked.{Checked}
use Rattle.or_recorded.specs.Checked.{IsRunChecked}
use Rattle.or_recorded.specs.Command.{run_of}
use Rattle.or_recorded.specs.Files.{Files}
use Rattle.or_recorded.specs.Replay.{IsReplayed}

-- the report of a recorded run at its end, where it has a name
pub report_is : (name : List ℕ) (files : Files) (run : Checked) (report console : List ℕ) (cores : List Core) (bus : BusState) (turns : ℕ)
    → cores ≡ run.board.cores → bus ≡ run.board.bus → turns ≡ length run.recording.turns.items
    → ((board : Board) → cores ≡ board.cores → Represents bus board.world → report ≡ made_for name (report_text board turns))
    → ((board : Board) → cores ≡ board.cores → Represents bus board.world → console ≡ console_of board.world.devices)
    → IsRunChecked files.image files.input files.recording run → IsReplayed name (run_of files run.recording) report console
report_is name files run report console cores bus turns same_cores same_bus count reported shown checked =
    let last : Board = checked.ended.last in
    let cores_are = same_cores ∙ checked.ended.is.same_cores in
    let is = subst (λ (b : BusState). Represents b last.world) (sym same_bus) checked.ended.is.represents in
    record {
      last = last;
      reached = checked.ended.reached;
      reported = reported last cores_are is ∙ ap (λ (n : ℕ). made_for name (report_text last n)) count;
      shown = shown last cores_are is;
    }

pub ruleset replayed = (report_is)
