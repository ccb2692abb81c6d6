use Rattle.std.proofs.Common.{◌≡◌, ◌∙◌, sym, ap, subst, ℕ, ◌+◌, ◌<◌, ◌^◌, List, length}
use Rattle.or_prof.specs.Profile.{steps_of}
use Rattle.or_recorded.proofs.Levels.{has_room, level_stays}
use Rattle.or_recorded.proofs.counting.count_turn.Goals as goal

pub add-requires-clause-room : goal.add-requires-clause-room
add-requires-clause-room c =
    let profile = c.args.profile.now in
    let trace = c.as_slice.result.now in
    subst (λ (n : ℕ). steps_of profile n + length trace < 2 ^ 27) (sym c.from.ensures)
    (has_room profile c.args.board.now.cores c.args.board.now.bus c.args.core (length trace) c.requires c.in-Ok.ensures.why c.as_slice.ensures.fits)

pub returns-in-Ok-add-clause-level : goal.returns-in-Ok-add-clause-level
returns-in-Ok-add-clause-level c = λ yes.
    let old = c.args.profile.now in
    let new = c.add.new.self in
    let trace = c.turn_traced.new.trace.items in
    level_stays old new c.args.board.now.cores c.turn_traced.new.self.cores c.args.board.now.bus c.turn_traced.new.self.bus c.args.core (length trace) c.requires
    c.in-Ok.ensures.steps c.add.ensures.cores
    (subst (λ (n : ℕ). steps_of new n ≡ steps_of old n + length trace) c.from.ensures
    (c.in-Ok-add.ensures.steps ∙ ap (λ (l : List ℕ). steps_of old c.from.result + length l) c.as_slice.ensures.value))
    (λ other differ. c.add.ensures.others other (λ e. differ (e ∙ c.from.ensures)))
    (c.in-Ok.ensures.turned c.requires.now c.requires.is)
