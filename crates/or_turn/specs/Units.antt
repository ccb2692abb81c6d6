-- What a clause says of a unit, and of what units share.
use Rattle.std.specs.Prelude.{◌≡◌, ℕ, ◌<◌, Bool, List, [], ◌∷◌, Option, None, Vec, vec_len, slice_index_or}
use Rattle.or_model.specs.Core.{Core}
use Rattle.or_turn.specs.declared.view.Settings.{Settings}
use Rattle.or_turn.specs.declared.view.View.{View}
use Rattle.or_turn.specs.declared.unit.TurnUnit.{TurnUnit}
use Rattle.or_turn.specs.declared.shared.Shared.{Shared}
use Rattle.or_turn.specs.Rule.{settings_of}
use Rattle.or_turn.specs.SeatViews.{opened_view}
use Rattle.atomic_table.specs.Seated.{TableId}
use Rattle.std.specs.Global.{Global}

abbrev pub view : TurnUnit → View
view u = u.seat.me.0

-- whether it has begun, and the answer of the first half of its turn
abbrev pub begun : TurnUnit → Option Bool
begun u = u.begun

abbrev pub cores : TurnUnit → List Core
cores u = u.cores.items

-- which Shared it is of
abbrev pub id_of : Shared → TableId
id_of s = s.table.shared.table_id

abbrev pub IsOf : Shared → TurnUnit → Type 0
IsOf s u = u.seat.table_id ≡ id_of s

-- the settings with which it was opened
abbrev pub settings_in : Shared → Settings
settings_in s = settings_of s.table.shared.key

-- it has one core, this one, which has not stopped, and it has not begun
pub record IsReady (u : TurnUnit) (c : ℕ) : Type 0 where
  pub cores_are : (view u).cores ≡ c ∷ []
  pub runs : (k : Core) → cores u ≡ k ∷ [] → k.stop ≡ None
  pub rests : begun u ≡ None

-- the unit of core n, as the opening gives it
pub record Fresh (z : TableId) (st : Settings) (n : ℕ) (u : TurnUnit) : Type 0 where
  pub of : u.seat.table_id ≡ z
  pub view_is : view u ≡ opened_view st n
  pub rests : begun u ≡ None

-- what the opening with these settings gives: one such unit for each core, in order of number
pub record AreOpened (st : Settings) (s : Shared) (units : Vec TurnUnit Global) : Type 0 where
  pub settings : settings_in s ≡ st
  pub many : vec_len units ≡ st.config.cores
  pub each : (n : ℕ) (d : TurnUnit) → n < st.config.cores → Fresh (id_of s) st n (slice_index_or units.items n d)
