use Rattle.std.proofs.Common.{◌≡◌, drop}
use Rattle.or_about.specs.About.{help_named}
use Rattle.or_about.proofs.find_help.Given as goal

-- it is among those that are left
abbrev pub invariant-loop-help : goal.invariant-loop-help
invariant-loop-help l = help_named (drop l.help-index l.helps) l.name ≡ help_named l.helps l.name
