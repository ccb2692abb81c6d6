-- Whom a host blames for its last fault.
use Rattle.std.specs.Prelude.{ℕ, List}
use Rattle.or_host.specs.declared.host.Operation.{Operation}

-- what was being done, and with which name
pub record Blamed : Type 0 where
  pub operation : Operation
  pub name : List ℕ

abbrev pub blamed : Operation → List ℕ → Blamed
blamed operation name = record { operation = operation; name = name }
