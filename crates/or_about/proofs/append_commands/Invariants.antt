use Rattle.std.proofs.Common.{◌≡◌, ◌++◌, take, codes}
use Rattle.std.specs.List.{flat_map}
use Rattle.or_about.specs.declared.Help.{Help}
use Rattle.or_about.specs.About.{usage_of}
use Rattle.or_about.proofs.append_commands.Given as goal

-- the commands so far
abbrev pub invariant-loop-help : goal.invariant-loop-help
invariant-loop-help l = l.out.items ≡ l.fn.out.items ++ flat_map (λ (help : Help). usage_of help ++ codes "\n") (take l.help-index l.helps)
