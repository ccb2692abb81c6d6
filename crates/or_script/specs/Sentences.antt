-- What is said to people of a fault of a script.
use Rattle.std.specs.Prelude.{ℕ, List, codes}
use Rattle.or_script.specs.declared.fault.ScriptFault.{ScriptFault}
use Rattle.or_script.specs.declared.fault.ScriptFault.TheVariants.{BadCommand, OutOfRange, NoMemory}

abbrev pub script_sentence : ScriptFault → List ℕ
script_sentence (BadCommand line) = codes "the line has none of the forms of a command"
script_sentence (OutOfRange line) = codes "a core, an address or a number is out of its range, or it is a 17th breakpoint, watchpoint or store point"
script_sentence NoMemory = codes "the system gave no more memory"
