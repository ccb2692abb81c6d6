use Rattle.or_bus.proofs.Regions.{loaded-ram, loaded-device, loaded-nothing}
use Rattle.or_bus.proofs.bus.Bus.load.Goals as goal

pub returns-in-Ram-clause-answer : goal.returns-in-Ram-clause-answer
returns-in-Ram-clause-answer c =
    λ world before. loaded-ram c.args.self.now _ world c.args.core c.args.pa _ c.args.width c.args.cached (c.in-Ram.ensures.told world before) before c.load_ram.ensures.value (c.load_ram.ensures.tracks world before)

pub returns-in-Register-clause-answer : goal.returns-in-Register-clause-answer
returns-in-Register-clause-answer c =
    λ world before. loaded-device c.args.self.now _ world c.args.core c.args.pa c.in-Register.offset _ c.in-Register.device c.args.width c.args.cached (c.in-Register.ensures.told world before) before c.load_device.ensures.sound c.load_device.ensures.value c.load_device.ensures.after

pub returns-in-Nothing-clause-answer : goal.returns-in-Nothing-clause-answer
returns-in-Nothing-clause-answer c =
    λ world before. loaded-nothing c.args.self.now world c.args.core c.args.pa c.args.width c.args.cached _ (c.in-Nothing.ensures.told world before)
