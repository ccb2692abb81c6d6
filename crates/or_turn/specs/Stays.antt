-- What a stay at the bus does.
use Rattle.std.specs.Prelude.{◌≡◌, ℕ, ◌<◌, ◌≤◌, Bool, List, ◌++◌, replicate, Option, Some, None}
use Rattle.or_words.specs.Settings.{Fits}
use Rattle.or_model.specs.Core.{Core}
use Rattle.or_model.specs.World.{World}
use Rattle.or_model.specs.DataAccess.{State}
use Rattle.or_model.specs.Turn.{turn_begun, turn_ended, turn}
use Rattle.or_turn.specs.declared.view.Transfer.{Transfer}
use Rattle.or_turn.specs.declared.view.Settings.{Settings}
use Rattle.or_turn.specs.Schedules.{board_of, IsDefined, core_at}
use Rattle.or_turn.specs.Rule.{SlotHolds}

-- a turn of a core, or the rest of one whose first half has been made, with the answer of that
abbrev pub turn_from : Option Bool → Core → World → State
turn_from None core world = turn core world
turn_from (Some follows) core world = turn_ended core world follows

-- core c, between two turns, has the bus: what is out of the slot is what the schedule gives, and so is the core
pub record HasBus (st : Settings) (turns : List ℕ) (c : ℕ) (core : Core) (transfer : Transfer) : Type 0 where
  pub fits : Fits st.config
  pub defined : IsDefined st turns
  pub below : c < st.config.cores
  pub core_is : core ≡ core_at (board_of st turns).cores c
  pub holds : SlotHolds st turns transfer

-- the same in the middle of a turn, with the answer of its first half
pub record HasBusBegun (st : Settings) (turns : List ℕ) (c : ℕ) (core : Core) (follows : Bool) (transfer : Transfer) : Type 0 where
  pub before : Core
  pub has : HasBus st turns c before transfer
  pub runs : before.stop ≡ None
  pub core_is : core ≡ (turn_begun before).core
  pub follows_is : follows ≡ (turn_begun before).follows

-- it made so many turns
pub record MadeTurns (st : Settings) (turns : List ℕ) (c least most : ℕ) (core : Core) (transfer : Transfer) : Type 0 where
  pub made : ℕ
  pub some : least ≤ made
  pub few : made ≤ most
  pub has : HasBus st (turns ++ replicate made c) c core transfer
