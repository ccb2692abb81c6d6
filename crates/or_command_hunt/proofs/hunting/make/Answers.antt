use Rattle.std.proofs.Common.{◌≡◌, ◌∙◌, ◌+◌, ◌≤◌, ℕ, List, sym, ap, subst, arith}
use Rattle.std.proofs.lemmas.Option.{MatchOption-at_some}
use Rattle.or_words.specs.declared.Config.{Config}
use Rattle.or_words.specs.Settings.{Fits}
use Rattle.or_sched.specs.Schedule.{IsSchedule}
use Rattle.or_sched.specs.declared.recording.Head.{Head}
use Rattle.or_replay.specs.Start.{start}
use Rattle.or_command_line.specs.Names.{hunt_names}
use Rattle.or_command_hunt.specs.Hunt.{IsHunted}
use Rattle.or_command_hunt.proofs.Hunts.{drawn_schedule, drawn_marks, head_config}
use Rattle.or_command_hunt.proofs.hunting.make.Goals as goal

pub texts-requires-clause-fits : goal.texts-requires-clause-fits
texts-requires-clause-fits g c =
    let same = ap (λ (head : Head). head.config) c.head-head.ensures ∙ head_config c.args.words.now.options.config c.args.image.now c.args.input.now in
    subst (λ (config : Config). Fits config) (sym same) c.requires.fits

pub texts-requires-clause-schedule : goal.texts-requires-clause-schedule
texts-requires-clause-schedule g c =
    let config = c.args.words.now.options.config in
    let image = c.args.image.now in
    let input = c.args.input.now in
    let same = ap (λ (head : Head). head.config) c.head-head.ensures ∙ head_config config image input in
    let drawn = (MatchOption-at_some _ _ _ c.in-Ok-Some.field-0-is (c.in-Ok-Some.ensures.searched (start config image input) c.requires.board)).1 in
    subst (λ (held : Config). IsSchedule held c.try_seeds.new.made.turns.items) (sym same)
    (drawn_schedule config image input c.try_seeds.new.made.turns.items drawn.last c.requires.fits drawn.is_made.reached drawn.stopped)

pub texts-requires-clause-marks : goal.texts-requires-clause-marks
texts-requires-clause-marks g c =
    let config = c.args.words.now.options.config in
    let image = c.args.image.now in
    let input = c.args.input.now in
    let drawn = (MatchOption-at_some _ _ _ c.in-Ok-Some.field-0-is (c.in-Ok-Some.ensures.searched (start config image input) c.requires.board)).1 in
    drawn_marks config image input c.try_seeds.new.made.turns.items c.try_seeds.new.made.marks.items drawn.is_made.marked

pub returns-in-Ok-clause-made : goal.returns-in-Ok-clause-made
returns-in-Ok-clause-made g c =
    let options = c.args.words.now.options in
    let first = start options.config c.args.image.now c.args.input.now in
    let found = MatchOption-at_some _ _ _ c.in-Ok-Some.field-0-is (c.in-Ok-Some.ensures.searched first c.requires.board) in
    let seed = c.in-Ok-Some.found.seed in
    let begins = found.0.begins in
    let texts = c.in-Ok.texts in record {
      seed = seed;
      least = found.0;
      hunted = subst (λ (head : Head). IsHunted (hunt_names c.args.words.now) first head options.seed seed texts.recording.items texts.report.items texts.told.items) c.head-head.ensures
          (c.in-Ok.ensures first options.seed found.1 (omega (arith, begins)));
    }
