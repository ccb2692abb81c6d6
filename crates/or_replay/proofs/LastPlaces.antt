-- The access of a turn is made at the last pc of its trace.
use Rattle.std.proofs.Common.{◌≡◌, refl, ap, ◌∙◌, sym, ℕ, List, [], ◌∷◌, ◌++◌, Bool, true, false, cond, Some, None}
use Rattle.std.specs.Prelude.{Option, slice_get, option_map, option_and_then, unwrap_or}
use Rattle.std.specs.List.{last_or}
use Rattle.or_model.specs.Core.{Core}
use Rattle.or_model.specs.Turn.{Board, turn_begun}
use Rattle.or_model.specs.World.{World}
use Rattle.or_model.specs.Trace.{private_trace, turn_trace}
use Rattle.or_bus.specs.declared.access.Access.{Access}
use Rattle.or_core.specs.Access.{step_access, turn_access}
use Rattle.or_replay.specs.declared.watching.Placed.{Placed}
use Rattle.or_replay.specs.Watching.{board_access, board_placed, board_last_pc, board_trace, placed_at, trace_of}

last_behind : (first : Option ℕ) (xs : List ℕ) (x : ℕ) → last_or first (xs ++ x ∷ []) ≡ Some x
last_behind first [] x = refl
last_behind first (y ∷ ys) x = last_behind (Some y) ys x

-- the access is that of the step on the bus, behind which there is no pc
by_follows : (core : Core) (world : World) (before : List ℕ) (follows : Bool)
    → option_map (placed_at core.pc) (cond follows (step_access core world) None)
    ≡ option_map (placed_at (unwrap_or (last_or None (before ++ cond follows (core.pc ∷ []) [])) 0)) (cond follows (step_access core world) None)
by_follows core world before true = ap (λ (pc : Option ℕ). option_map (placed_at (unwrap_or pc 0)) (step_access core world)) (sym (last_behind None before core.pc))
by_follows core world before false = refl

turn_placed : (core : Core) (world : World)
    → option_map (placed_at (turn_begun core).core.pc) (turn_access core world) ≡ option_map (placed_at (unwrap_or (last_or None (turn_trace core)) 0)) (turn_access core world)
unfolding turn_access turn_trace
turn_placed core world = by_follows (turn_begun core).core world (private_trace core) (turn_begun core).follows

core_placed : (world : World) (core : Core) (found : Option Core) → found ≡ Some core
    → option_map (placed_at (turn_begun core).core.pc) (turn_access core world)
    ≡ option_map (placed_at (unwrap_or (last_or None (trace_of found)) 0)) (option_and_then (λ core. turn_access core world) found)
core_placed world core found at =
    turn_placed core world
    ∙ ap (λ (f : Option Core). option_map (placed_at (unwrap_or (last_or None (trace_of f)) 0)) (option_and_then (λ core. turn_access core world) f)) (sym at)

-- what the bus tells behind a turn, with the pc behind the private steps
pub placed_is : (board : Board) (c pc : ℕ) (core : Core) (last : Option Access) → slice_get board.cores c ≡ Some core → pc ≡ (turn_begun core).core.pc → last ≡ turn_access core board.world
    → option_map (placed_at pc) last ≡ board_placed board c
unfolding board_placed board_access board_trace
placed_is board c pc core last at place access =
    ap (λ (p : ℕ). option_map (placed_at p) last) place ∙ ap (option_map (placed_at (turn_begun core).core.pc)) access ∙ core_placed board.world core (slice_get board.cores c) at

-- the access of a turn without its pc
pub access_alone : (board : Board) (c : ℕ) → option_map (λ at. at.access) (board_placed board c) ≡ board_access board c
unfolding board_placed
access_alone board c = by_access (board_access board c)
  where
    by_access : (access : Option Access) → option_map (λ (at : Placed). at.access) (option_map (placed_at (board_last_pc board c)) access) ≡ access
    by_access None = refl
    by_access (Some access) = refl
