use Rattle.std.proofs.Common.{inr}
use Rattle.or_recorded.proofs.Raced.{none_seen}
use Rattle.or_recorded.proofs.racing.RaceRecordedCommand.begin.Goals as goal

pub returns-clause-seen : goal.returns-clause-seen
returns-clause-seen g c = λ turns cores bus is.
    inr (none_seen _ c.args.config.now c.args.files.image.now c.args.files.input.now turns c.new.result cores bus is c.new.ensures.none c.new.ensures.last c.new.ensures.cores)
