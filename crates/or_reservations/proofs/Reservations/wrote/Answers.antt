use Rattle.std.proofs.Common.{◌≡◌, ◌∙◌, ◌++◌, ◌∷◌, [], sym, ap, subst, map, length}
use Rattle.or_reservations.specs.Slots.{after_write}
use Rattle.or_reservations.specs.Tracks.{Tracks}
use Rattle.or_reservations.proofs.Histories.{tracks-write, map-none}
use Rattle.or_reservations.proofs.Reservations.wrote.Goals as goal
use Rattle.or_reservations.proofs.Reservations.wrote.Goals.{Else-self}

pub returns-then-self-clause-tracks : goal.returns-then-self-clause-tracks
returns-then-self-clause-tracks c = λ writes marks core is.
    let len : length c.args.self.now ≡ 8 = ap length (sym c.self.view_is) ∙ c.self.invariant.0 in
    rw (c.clear_word.ensures, c.self.view_is) (tracks-write _ writes marks core c.args.word len is)

-- where none stands a write changes no slot
unchanged : (c : Else-self) → map (after_write c.args.word) c.args.self.now ≡ c.args.self.now
unchanged c = subst (λ slots. map (after_write c.args.word) slots ≡ slots) c.self.view_is (map-none c.args.word c.self.inside.slots (c.self.invariant.1 c.if-self.false))

pub returns-else-self-clause-value : goal.returns-else-self-clause-value
returns-else-self-clause-value c = sym (unchanged c)

pub returns-else-self-clause-tracks : goal.returns-else-self-clause-tracks
returns-else-self-clause-tracks c = λ writes marks core is.
    let len : length c.args.self.now ≡ 8 = ap length (sym c.self.view_is) ∙ c.self.invariant.0 in
    subst (λ slots. Tracks slots (writes ++ (core, c.args.word) ∷ []) marks) (unchanged c) (tracks-write c.args.self.now writes marks core c.args.word len is)
