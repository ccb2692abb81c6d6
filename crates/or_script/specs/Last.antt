-- How many turns `last` asks for.
use Rattle.std.specs.Prelude.{◌≤◌}
use Rattle.or_words.specs.declared.limits.TheConstants.{LAST_TURNS}
use Rattle.or_script.specs.declared.command.Command.{Command}
use Rattle.or_script.specs.declared.command.Command.TheVariants.{Nothing, Go, Turn, Break, Watch, Stores, Registers, Memory, Lines, Last}

abbrev pub HasFewTurns : Command → Type 0
HasFewTurns (Last n) = n ≤ LAST_TURNS
HasFewTurns Nothing = Unit {0}
HasFewTurns Go = Unit {0}
HasFewTurns (Turn n) = Unit {0}
HasFewTurns (Break core pc) = Unit {0}
HasFewTurns (Watch address) = Unit {0}
HasFewTurns (Stores address) = Unit {0}
HasFewTurns (Registers core) = Unit {0}
HasFewTurns (Memory address words) = Unit {0}
HasFewTurns (Lines core) = Unit {0}
