-- Worked lines of a script.
use Rattle.std.proofs.Common.{◌≡◌, refl, false, Ok, Err}
use Rattle.std.specs.Prelude.{codes, [], ◌∷◌}
use Rattle.or_text.specs.Numerals.{value_of}
use Rattle.or_words.specs.declared.Config.{Config}
use Rattle.or_script.specs.Command.{command_of}
use Rattle.or_script.specs.Script.{command_at, no_points}
use Rattle.or_script.specs.declared.command.Command.TheVariants.{Turn, Last, Go}
use Rattle.or_script.specs.declared.command.LineFault.TheVariants.{BadCommand, OutOfRange}
use Rattle.or_back.specs.declared.lines.BackCommand.TheVariants.{Plain, Back, To}
use Rattle.or_back.specs.Lines.{back_command_at}
use Rattle.or_back.specs.Script.{back_script_of}

-- two cores and 1 MiB
abbrev board : Config
board = record { cores = 2; budget = 100; ram = 1; latched = false }

back_two : back_command_at board no_points (codes "back 2") ≡ Ok (Back 2)
unfolding back_command_at value_of
back_two = refl

back_none : back_command_at board no_points (codes "back 0") ≡ Err OutOfRange
unfolding back_command_at value_of
back_none = refl

back_twice : back_command_at board no_points (codes "back 1 1") ≡ Err BadCommand
unfolding back_command_at command_at command_of value_of
back_twice = refl

to_start : back_command_at board no_points (codes "to 0") ≡ Ok (To 0)
unfolding back_command_at value_of
to_start = refl

to_too_far : back_command_at board no_points (codes "to 0x100000000") ≡ Err OutOfRange
unfolding back_command_at value_of
to_too_far = refl

to_nowhere : back_command_at board no_points (codes "to ") ≡ Err BadCommand
unfolding back_command_at value_of
to_nowhere = refl

-- the lines of the debugger are lines here too
whole : back_script_of board (codes "turn 4\nback 2\nlast 2\ngo") ≡ Ok (Plain (Turn 4) ∷ Back 2 ∷ Plain (Last 2) ∷ Plain Go ∷ [])
unfolding back_script_of back_command_at command_at command_of value_of
whole = refl
