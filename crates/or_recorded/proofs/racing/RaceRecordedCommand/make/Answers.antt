use Rattle.std.proofs.Common.{length, subst}
use Rattle.std.specs.Prelude.{Option}
use Rattle.or_words.specs.Settings.{ram_bytes}
use Rattle.or_elf.specs.Symbols.{SymbolTable}
use Rattle.or_command_image.proofs.Headers.{sound_is_long}
use Rattle.or_race.specs.Text.{RaceText}
use Rattle.or_recorded.specs.Files.{bytes_of_files}
use Rattle.or_recorded.specs.Command.{run_of, start_of}
use Rattle.or_recorded.specs.Events.{events_of}
use Rattle.or_recorded.proofs.Raced.{races_of}
use Rattle.or_recorded.proofs.racing.RaceRecordedCommand.make.Goals as goal

pub symbols_for-requires-clause-long : goal.symbols_for-requires-clause-long
symbols_for-requires-clause-long g c = sound_is_long c.args.files.image.now (ram_bytes c.args.run.recording.head.config) c.requires.checked.checked.sound

pub returns-in-Ok-report : goal.returns-in-Ok-report
returns-in-Ok-report g c =
    let run = run_of (bytes_of_files c.args.files) c.args.run.recording in
    let are = races_of _ c.args.watch.accesses (start_of run) run.turns (length run.turns) c.args.run.board.cores c.args.run.board.bus c.if-watch.false c.requires.seen in
    let text = c.in-Ok-report.ensures _ (events_of (start_of run) run.turns) are.records in
    (c.in-Ok.ensures.0, subst (λ (symbols : Option SymbolTable). RaceText _ symbols (events_of (start_of run) run.turns) c.in-Ok-report.console.items) c.in-Ok.ensures.1 text)
