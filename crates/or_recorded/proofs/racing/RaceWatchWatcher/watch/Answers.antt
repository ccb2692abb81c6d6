use Rattle.std.proofs.Common.{◌∙◌, sym}
use Rattle.or_recorded.proofs.Raced.{add_within, seen_some, seen_none}
use Rattle.or_recorded.proofs.racing.RaceWatchWatcher.watch.Goals as goal

pub add-requires-clause-core : goal.add-requires-clause-core
add-requires-clause-core g c =
    add_within _ c.args.self.now.accesses c.if-self.false c.requires.seen.0 c.args.turns.now c.args.place c.in-Ok-Some.placed c.args.board.now.cores c.args.board.now.bus c.requires.seen.1
    (λ board is. sym c.in-Ok-Some.field-0-is ∙ c.in-Ok-Some.ensures.access board is) c.in-Ok-Some.ensures.why

pub returns-in-Ok-Some-clause-seen : goal.returns-in-Ok-Some-clause-seen
returns-in-Ok-Some-clause-seen g c = λ start seen.
    seen_some _ start c.args.turns.now c.args.place c.in-Ok-Some.field-0 c.in-Ok-Some.placed c.args.self.now.accesses c.add.new.self
    c.args.board.now.cores c.observe_placed.new.self.cores c.args.board.now.bus c.observe_placed.new.self.bus
    c.requires.inside c.if-self.false seen c.in-Ok-Some.ensures.turned c.in-Ok-Some.ensures.access c.in-Ok-Some.field-0-is c.add.ensures

pub returns-in-Ok-None-clause-seen : goal.returns-in-Ok-None-clause-seen
returns-in-Ok-None-clause-seen g c = λ start seen.
    seen_none _ start c.args.turns.now c.args.place c.in-Ok-None.field-0 c.args.self.now.accesses
    c.args.board.now.cores c.observe_placed.new.self.cores c.args.board.now.bus c.observe_placed.new.self.bus
    c.requires.inside c.if-self.false seen c.in-Ok-None.ensures.turned c.in-Ok-None.ensures.access c.in-Ok-None.field-0-is
