use Rattle.std.proofs.Common.{ap, sym, ◌∙◌}
use Rattle.std.specs.Prelude.{is_some}
use Rattle.std.proofs.lemmas.Bool.{true≢false}
use Rattle.or_bus.proofs.Tracks.{held_word_is}
use Rattle.or_bus.proofs.Worlds.{track-hit, track-miss, found-held}
use Rattle.or_bus.proofs.bus.Bus.load_cached.Goals as goal

pub returns-in-Some-clause-tracks : goal.returns-in-Some-clause-tracks
returns-in-Some-clause-tracks c =
    λ world before. track-hit c.args.self.now _ world c.args.core c.args.pa c.in-Some.word c.look.ensures.sound c.requires.core (sym c.in-Some.ensures.value) c.count_hit.ensures before

pub returns-in-None-clause-tracks : goal.returns-in-None-clause-tracks
returns-in-None-clause-tracks c =
    λ world before. track-miss c.args.self.now _ world c.args.core c.args.pa c.look.ensures.sound c.requires.core c.miss-line.ensures.inside (sym c.in-None.ensures.value) c.miss-line.ensures.after before

pub returns-in-Some-clause-value : goal.returns-in-Some-clause-value
returns-in-Some-clause-value c =
    held_word_is c.args.self.now.ram _ c.args.pa c.in-Some.word c.requires.aligned (c.look.ensures.sound.coherent c.args.core c.requires.core) (sym c.in-Some.ensures.value)

pub returns-in-Some-clause-miss : goal.returns-in-Some-clause-miss
returns-in-Some-clause-miss c =
    λ world before lacking. let found = found-held c.args.self.now world c.args.core c.args.pa c.requires.core before in
    absurd (true≢false (ap is_some c.in-Some.ensures.value ∙ found ∙ lacking))

pub returns-in-None-clause-hit : goal.returns-in-None-clause-hit
returns-in-None-clause-hit c =
    λ world before is. let found = found-held c.args.self.now world c.args.core c.args.pa c.requires.core before in
    absurd (true≢false (sym (ap is_some c.in-None.ensures.value ∙ found ∙ is)))
