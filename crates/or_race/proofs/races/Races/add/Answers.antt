use Rattle.std.proofs.Common.{rules, ◌≡◌, ◌<◌, length, unwrap_or, ap, refl}
use Rattle.or_race.specs.Event.{event}
use Rattle.or_race.specs.Kept.{blank}
use Rattle.or_race.specs.Records.{kept_of}
use Rattle.or_race.proofs.Recorded.{added, set_here, set_else, not_at}
use Rattle.or_race.proofs.races.Races.add.Goals as goal

pub returns-in-Ok-clause-ok : goal.returns-in-Ok-clause-ok
returns-in-Ok-clause-ok c =
    let before : c.unwrap_or-before.result ≡ kept_of c.args.self.now c.args.a.now.word = cc in
    let long : c.args.a.now.core < length c.args.self.now.clocks = search rules in
    λ locks es r. added locks c.args.self.now _ (event c.args.turn c.args.pc c.args.a.now) es c.next_clock-clock.result c.next_word-word.result c.requires.core c.requires.later
    (rw (← before) (c.next_clock-clock.ensures c.args.pc)) (rw (← before) c.next_word-word.ensures) refl refl refl
    (set_here c.args.self.now.clocks c.args.a.now.core _ _ long) (set_else c.args.self.now.clocks c.args.a.now.core _ _)
    (ap (λ o. unwrap_or o blank) c.in-Ok.ensures.updates.1)
    (λ w h. ap (λ o. unwrap_or o blank) (c.in-Ok.ensures.updates.2 w (not_at c.args.a.now.word w h)))
    r
