-- The forms of a line.
use Rattle.std.specs.Prelude.{ℕ, ◌+◌, ◌*◌, ◌%◌, ◌^◌, ◌==◌, nat_lt, nat_le, if◌then◌else◌, Bool, true, false, ◌&&◌, List, [], ◌∷◌, codes, Option, Some, None, Result, Ok, Err}
use Rattle.std.specs.List.{slice_split}
use Rattle.std.specs.Str.{bytes_eq}
use Rattle.or_words.specs.declared.Config.{Config}
use Rattle.or_words.specs.declared.limits.TheConstants.{LAST_TURNS, MOST_SHOWN_WORDS}
use Rattle.or_words.specs.Settings.{ram_bytes}
use Rattle.or_script.specs.declared.command.Command.{Command}
use Rattle.or_script.specs.declared.command.Command.TheVariants.{Nothing, Go, Turn, Break, Watch, Stores, Registers, Memory, Lines, Last}
use Rattle.or_script.specs.declared.command.LineFault.{LineFault}
use Rattle.or_script.specs.declared.command.LineFault.TheVariants.{BadCommand, OutOfRange}
use Rattle.or_script.specs.Operands.{number_of, core_number, cores_named}

-- the command, where its operands are in their ranges
abbrev pub in_range : Bool → Command → Result Command LineFault
in_range holds command = if holds then Ok command else Err OutOfRange

-- a number that is one of 32 bits
abbrev pub is_word : ℕ → Bool
is_word n = nat_lt n (2 ^ 32)

abbrev pub turn_line : ℕ → Result Command LineFault
turn_line n = in_range (nat_le 1 n && is_word n) (Turn n)

abbrev pub last_line : ℕ → Result Command LineFault
last_line n = in_range (nat_le 1 n && nat_le n LAST_TURNS) (Last n)

-- the address of a word of RAM
abbrev pub is_word_of_ram : Config → ℕ → Bool
is_word_of_ram config address = address % 4 == 0 && is_word address && nat_lt address (ram_bytes config)

abbrev pub watch_line : Config → ℕ → Result Command LineFault
watch_line config address = in_range (is_word_of_ram config address) (Watch address)

abbrev pub stores_line : Config → ℕ → Result Command LineFault
stores_line config address = in_range (is_word_of_ram config address) (Stores address)

abbrev pub registers_line : Config → ℕ → Result Command LineFault
registers_line config core = in_range (nat_lt core config.cores) (Registers core)

abbrev pub lines_line : Config → ℕ → Result Command LineFault
lines_line config core = in_range (nat_lt core config.cores) (Lines core)

-- the core of a breakpoint, if it is of one core
abbrev pub are_of_board : Config → Option ℕ → Bool
are_of_board config None = true
are_of_board config (Some core) = nat_lt core config.cores

-- any address will do
abbrev pub break_line : Config → Option ℕ → ℕ → Result Command LineFault
break_line config core pc = in_range (are_of_board config core && is_word pc) (Break core pc)

-- words of RAM, at least one
abbrev pub memory_line : Config → ℕ → ℕ → Result Command LineFault
memory_line config address words =
    in_range (address % 4 == 0 && is_word address && nat_le 1 words && nat_le words MOST_SHOWN_WORDS && nat_le (address + 4 * words) (ram_bytes config)) (Memory address words)

-- the line, where its operands are numbers
abbrev pub with_one : Option ℕ → (ℕ → Result Command LineFault) → Result Command LineFault
with_one None line = Err BadCommand
with_one (Some n) line = line n

abbrev pub with_two : {X : Type 0} → Option X → Option ℕ → (X → ℕ → Result Command LineFault) → Result Command LineFault
with_two None second line = Err BadCommand
with_two (Some first) None line = Err BadCommand
with_two (Some first) (Some second) line = line first second

abbrev pub no_operand : List ℕ → Result Command LineFault
no_operand name =
    if bytes_eq name (codes "go") then Ok Go
    else (if bytes_eq name [] then Ok Nothing else Err BadCommand)

abbrev pub one_operand : Config → List ℕ → List ℕ → Result Command LineFault
one_operand config name word =
    if bytes_eq name (codes "turn") then with_one (number_of word) turn_line
    else (if bytes_eq name (codes "last") then with_one (number_of word) last_line
    else (if bytes_eq name (codes "watch") then with_one (number_of word) (watch_line config)
    else (if bytes_eq name (codes "stores") then with_one (number_of word) (stores_line config)
    else (if bytes_eq name (codes "regs") then with_one (core_number word) (registers_line config)
    else (if bytes_eq name (codes "lines") then with_one (core_number word) (lines_line config)
    else Err BadCommand)))))

abbrev pub two_operands : Config → List ℕ → List ℕ → List ℕ → Result Command LineFault
two_operands config name first second =
    if bytes_eq name (codes "break") then with_two (cores_named first) (number_of second) (break_line config)
    else (if bytes_eq name (codes "mem") then with_two (number_of first) (number_of second) (memory_line config)
    else Err BadCommand)

-- the parts of a line between its blanks
abbrev pub words_of : List ℕ → List (List ℕ)
words_of line = slice_split (λ b. b == 32) line

abbrev pub form_of : Config → List (List ℕ) → Result Command LineFault
form_of config [] = Err BadCommand
form_of config (name ∷ []) = no_operand name
form_of config (name ∷ word ∷ []) = one_operand config name word
form_of config (name ∷ first ∷ second ∷ []) = two_operands config name first second
form_of config (name ∷ first ∷ second ∷ third ∷ others) = Err BadCommand

-- a line that begins with a number sign
abbrev pub is_comment : List ℕ → Bool
is_comment [] = false
is_comment (c ∷ cs) = c == 35

-- the command of a line; a comment does nothing
unfoldable pub command_of : Config → List ℕ → Result Command LineFault
command_of config line = if is_comment line then Ok Nothing else form_of config (words_of line)
