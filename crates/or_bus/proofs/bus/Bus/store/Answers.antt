use Rattle.or_bus.proofs.Regions.{stored-ram, stored-device, stored-nothing}
use Rattle.or_bus.proofs.bus.Bus.store.Goals as goal

pub returns-in-Ram-clause-answer : goal.returns-in-Ram-clause-answer
returns-in-Ram-clause-answer c =
    λ world before. stored-ram _ world c.args.core c.args.pa c.args.v c.args.width c.args.cached _ (c.in-Ram.ensures.told world before) (c.store_ram.ensures.tracks world before)

pub returns-in-Register-clause-answer : goal.returns-in-Register-clause-answer
returns-in-Register-clause-answer c =
    λ world before. stored-device c.args.self.now _ world c.args.core c.args.pa c.args.v c.in-Register.offset c.in-Register.device c.args.width c.args.cached _ (c.in-Register.ensures.told world before) before c.store_device.ensures.sound c.store_device.ensures.after

pub returns-in-Nothing-clause-answer : goal.returns-in-Nothing-clause-answer
returns-in-Nothing-clause-answer c =
    λ world before. stored-nothing c.args.self.now world c.args.core c.args.pa c.args.v c.args.width c.args.cached _ (c.in-Nothing.ensures.told world before)
