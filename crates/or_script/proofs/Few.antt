-- A script without fault asks for at most 64 of the last turns in any line.
use Rattle.std.proofs.Common.{◌≡◌, refl, subst, ℕ, ◌+◌, Bool, true, false, cond, leb, ◌&&◌, List, [], ◌∷◌, Some, None, Result, Ok, Err, arith}
use Rattle.std.specs.Prelude.{Option, ◌==◌, ◌%◌, ◌*◌, nat_lt, nat_le, codes}
use Rattle.std.specs.Str.{bytes_eq}
use Rattle.or_words.specs.Settings.{ram_bytes}
use Rattle.std.specs.List.{All, slice_split}
use Rattle.std.proofs.lemmas.List.Elements.{All-nil, All-cons}
use Rattle.std.proofs.lemmas.Bool.Decides.{nat_tests}
use Rattle.or_words.specs.declared.Config.{Config}
use Rattle.or_script.specs.declared.command.Command.{Command}
use Rattle.or_script.specs.declared.command.Command.TheVariants.{Nothing, Go, Turn, Break, Watch, Stores, Registers, Memory, Lines, Last}
use Rattle.or_script.specs.declared.command.LineFault.{LineFault}
use Rattle.or_script.specs.declared.command.LineFault.TheVariants.{BadCommand, OutOfRange}
use Rattle.or_script.specs.declared.script.Points.{Points}
use Rattle.or_script.specs.Operands.{number_of, core_number, cores_named}
use Rattle.or_script.specs.Command.{in_range, is_word, with_one, with_two, is_word_of_ram, are_of_board, is_comment, turn_line, last_line, watch_line, stores_line, registers_line, lines_line, break_line, memory_line, no_operand, one_operand, two_operands, words_of, form_of, command_of}
use Rattle.or_script.specs.Script.{no_points, points_after, with_room, unless_full, command_at, onto, after_line, script_from, script_of}
use Rattle.or_script.specs.Last.{HasFewTurns}

abbrev Few : Result Command LineFault → Type 0
Few (Ok command) = HasFewTurns command
Few (Err fault) = Unit {0}

few_range : (holds : Bool) (command : Command) → (holds ≡ true → HasFewTurns command) → Few (in_range holds command)
few_range true command few = few refl
few_range false command few = tt

few_one : (number : Option ℕ) (line : ℕ → Result Command LineFault) → ((n : ℕ) → Few (line n)) → Few (with_one number line)
few_one None line few = tt
few_one (Some n) line few = few n

few_two : {X : Type 0} (first : Option X) (second : Option ℕ) (line : X → ℕ → Result Command LineFault) → ((m : X) (n : ℕ) → Few (line m n)) → Few (with_two first second line)
few_two None second line few = tt
few_two (Some m) None line few = tt
few_two (Some m) (Some n) line few = few m n

few_if : (test : Bool) (first second : Result Command LineFault) → Few first → Few second → Few (cond test first second)
few_if true first second few other = few
few_if false first second few other = other

few_last : (n : ℕ) → Few (last_line n)
few_last n = few_range (leb 1 n && leb n 64) (Last n) (λ e. grind (arith, nat_tests, e))

none_by : (go empty : Bool) → Few (cond go (Ok Go) (cond empty (Ok Nothing) (Err BadCommand)))
none_by true empty = tt
none_by false true = tt
none_by false false = tt

few_none : (name : List ℕ) → Few (no_operand name)
few_none name = none_by (bytes_eq name (codes "go")) (bytes_eq name [])

operand_by : (config : Config) (word : List ℕ) (turn last watch stores registers lines : Bool)
    → Few (cond turn (with_one (number_of word) turn_line) (cond last (with_one (number_of word) last_line) (cond watch (with_one (number_of word) (watch_line config)) (cond stores (with_one (number_of word) (stores_line config))
    (cond registers (with_one (core_number word) (registers_line config)) (cond lines (with_one (core_number word) (lines_line config)) (Err BadCommand)))))))
operand_by config word true last watch stores registers lines = few_one (number_of word) turn_line (λ n. few_range (leb 1 n && is_word n) (Turn n) (λ _. tt))
operand_by config word false true watch stores registers lines = few_one (number_of word) last_line few_last
operand_by config word false false true stores registers lines = few_one (number_of word) (watch_line config) (λ n. few_range (is_word_of_ram config n) (Watch n) (λ _. tt))
operand_by config word false false false true registers lines = few_one (number_of word) (stores_line config) (λ n. few_range (is_word_of_ram config n) (Stores n) (λ _. tt))
operand_by config word false false false false true lines = few_one (core_number word) (registers_line config) (λ n. few_range (nat_lt n config.cores) (Registers n) (λ _. tt))
operand_by config word false false false false false true = few_one (core_number word) (lines_line config) (λ n. few_range (nat_lt n config.cores) (Lines n) (λ _. tt))
operand_by config word false false false false false false = tt

few_operand : (config : Config) (name word : List ℕ) → Few (one_operand config name word)
few_operand config name word =
    operand_by config word (bytes_eq name (codes "turn")) (bytes_eq name (codes "last")) (bytes_eq name (codes "watch")) (bytes_eq name (codes "stores")) (bytes_eq name (codes "regs")) (bytes_eq name (codes "lines"))

operands_by : (config : Config) (first second : List ℕ) (break memory : Bool)
    → Few (cond break (with_two (cores_named first) (number_of second) (break_line config)) (cond memory (with_two (number_of first) (number_of second) (memory_line config)) (Err BadCommand)))
operands_by config first second true memory =
    few_two (cores_named first) (number_of second) (break_line config) (λ m n. few_range (are_of_board config m && is_word n) (Break m n) (λ _. tt))
operands_by config first second false true =
    few_two (number_of first) (number_of second) (memory_line config)
    (λ m n. few_range (m % 4 == 0 && is_word m && nat_le 1 n && nat_le n 256 && nat_le (m + 4 * n) (ram_bytes config)) (Memory m n) (λ _. tt))
operands_by config first second false false = tt

few_operands : (config : Config) (name first second : List ℕ) → Few (two_operands config name first second)
few_operands config name first second = operands_by config first second (bytes_eq name (codes "break")) (bytes_eq name (codes "mem"))

few_form : (config : Config) (words : List (List ℕ)) → Few (form_of config words)
few_form config [] = tt
few_form config (name ∷ []) = few_none name
few_form config (name ∷ word ∷ []) = few_operand config name word
few_form config (name ∷ first ∷ second ∷ []) = few_operands config name first second
few_form config (name ∷ first ∷ second ∷ third ∷ others) = tt

few_command : (config : Config) (line : List ℕ) → Few (command_of config line)
unfolding command_of
few_command config line = few_if (is_comment line) (Ok Nothing) (form_of config (words_of line)) tt (few_form config (words_of line))

few_room : (points : Points) (command : Command) → HasFewTurns command → Few (with_room points command)
few_room points (Break core pc) few = few_if (nat_lt points.breaks 16) (Ok (Break core pc)) (Err OutOfRange) tt tt
few_room points (Watch address) few = few_if (nat_lt points.watches 16) (Ok (Watch address)) (Err OutOfRange) tt tt
few_room points (Stores address) few = few_if (nat_lt points.stores 16) (Ok (Stores address)) (Err OutOfRange) tt tt
few_room points Nothing few = tt
few_room points Go few = tt
few_room points (Turn n) few = tt
few_room points (Registers core) few = tt
few_room points (Memory address words) few = tt
few_room points (Lines core) few = tt
few_room points (Last n) few = few

few_unless : (points : Points) (line : Result Command LineFault) → Few line → Few (unless_full points line)
few_unless points (Ok command) few = few_room points command few
few_unless points (Err fault) few = tt

few_at : (config : Config) (points : Points) (line : List ℕ) → Few (command_at config points line)
unfolding command_at
few_at config points line = few_unless points (command_of config line) (few_command config line)

abbrev AllFew : Result (List Command) (LineFault × ℕ) → Type 0
AllFew (Ok commands) = All HasFewTurns commands
AllFew (Err refusal) = Unit {0}

few_onto : (command : Command) (later : Result (List Command) (LineFault × ℕ)) → HasFewTurns command → AllFew later → AllFew (onto command later)
few_onto command (Ok commands) few all = All-cons HasFewTurns command commands few all
few_onto command (Err refusal) few all = tt

few_after : (number : ℕ) (line : Result Command LineFault) (later : Command → Result (List Command) (LineFault × ℕ)) → Few line → ((command : Command) → AllFew (later command))
    → AllFew (after_line number line later)
few_after number (Ok command) later few all = few_onto command (later command) few (all command)
few_after number (Err fault) later few all = tt

few_from : (config : Config) (number : ℕ) (points : Points) (lines : List (List ℕ)) → AllFew (script_from config number points lines)
few_from config number points [] = All-nil HasFewTurns
few_from config number points (line ∷ lines) =
    few_after number (command_at config points line) (λ command. script_from config (number + 1) (points_after points command) lines)
    (few_at config points line) (λ command. few_from config (number + 1) (points_after points command) lines)

pub few_script : (config : Config) (script : List ℕ) (commands : List Command) → script_of config script ≡ Ok commands → All HasFewTurns commands
unfolding script_of
few_script config script commands is = subst AllFew is (few_from config 1 no_points (slice_split (λ b. b == 10) script))
