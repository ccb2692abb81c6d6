use Rattle.std.proofs.Common.{◌∙◌, sym, Ok, Err, rules}
use Rattle.or_asm.proofs.NextPlace.{next_found}
use Rattle.or_asm.proofs.symbols.next_place.Goals as goal

pub returns-in-Ok : goal.returns-in-Ok
returns-in-Ok c =
    let found = next_found c.args.places.now c.args.place c.args.end (Ok c.in-Ok.field-0) c.requires.sorted c.in-Ok.ensures.position in
    c.min.ensures ∙ sym found

pub returns-in-Err : goal.returns-in-Err
returns-in-Err c =
    let found = next_found c.args.places.now c.args.place c.args.end (Err c.in-Err.index) c.requires.sorted c.in-Err.ensures.position in
    c.min-in-Err.ensures ∙ sym (found.0 c.if-index-places.true)

pub returns-in-Err-2 : goal.returns-in-Err-2
returns-in-Err-2 c =
    let found = next_found c.args.places.now c.args.place c.args.end (Err c.in-Err.index) c.requires.sorted c.in-Err.ensures.position in
    sym (found.1 (search rules))
