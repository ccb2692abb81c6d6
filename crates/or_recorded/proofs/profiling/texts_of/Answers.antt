use Rattle.std.proofs.Common.{length}
use Rattle.or_prof.specs.Text.{IsProfText}
use Rattle.or_recorded.proofs.Following.{text_alone}
use Rattle.or_recorded.proofs.profiling.texts_of.Goals as goal

pub returns-in-Ok : goal.returns-in-Ok
returns-in-Ok c = λ additions is.
    text_alone (IsProfText c.args.profile.now.hot (length c.args.profile.now.cores) c.args.profile.now.symbols additions) c.new-console.result.items c.write.new.out.items
    c.new-console.ensures.items (c.in-Ok.ensures.text additions is)
