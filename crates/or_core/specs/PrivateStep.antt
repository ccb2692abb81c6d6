-- What a core makes of a step that needs no bus.
use Rattle.std.specs.Prelude.{◌≡◌, true, false, None, is_none}
use Rattle.or_core.specs.declared.private.Private.{Private}
use Rattle.or_core.specs.declared.private.Private.TheVariants.{Stepped, NeedsBus, Stopped}
use Rattle.or_model.specs.Core.{Core}
use Rattle.or_model.specs.Step.{is_private, private_step}

-- the answer tells what stands in the way of a step, and only a step changes the core
abbrev pub IsPrivateStep : Private → Core → Core → Type 0
IsPrivateStep Stepped old new = (old.stop ≡ None) × (is_private old ≡ true) × (new ≡ private_step old)
IsPrivateStep NeedsBus old new = (old.stop ≡ None) × (is_private old ≡ false) × (new ≡ old)
IsPrivateStep Stopped old new = (is_none old.stop ≡ false) × (new ≡ old)
