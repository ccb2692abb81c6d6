-- What is said of a command two of whose names lead to one file.
use Rattle.std.proofs.Common.{◌≡◌, ℕ, Option, Some, sym, subst, inl}
use Rattle.std.specs.Prelude.{IfSome}
use Rattle.or_host.specs.HostState.{HostState}
use Rattle.or_command_line.specs.Command.{CommandModel}
use Rattle.or_same_file.specs.Pairs.{EndsSame}
use Rattle.or_cli.specs.Names.{TopEnds, TopDecides}

pub same_ends : (found : Option CommandModel) (command : CommandModel) (status : ℕ) (a b : HostState) → found ≡ Some command → EndsSame command status a b
    → IfSome found (λ command. TopEnds command status a b)
same_ends found command status a b is ends = subst (λ (found : Option CommandModel). IfSome found (λ command. TopEnds command status a b)) (sym is) (inl ends)

pub same_decides : (found : Option CommandModel) (command : CommandModel) (status : ℕ) (a b : HostState) → found ≡ Some command → EndsSame command status a b
    → IfSome found (λ command. TopDecides command status a b)
same_decides found command status a b is ends = subst (λ (found : Option CommandModel). IfSome found (λ command. TopDecides command status a b)) (sym is) (inl ends)

pub ruleset same = (same_ends, same_decides)
