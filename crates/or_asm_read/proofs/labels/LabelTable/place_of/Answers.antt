use Rattle.std.proofs.Common.{rules, arith, ◌≡◌, ◌∙◌, sym, ap, Some, map}
use Rattle.or_asm_read.specs.Labels.{place_of, first_number_of}
use Rattle.or_asm_read.proofs.LabelNumbers.{pair_of, number_within, place_at_number}
use Rattle.or_asm_read.proofs.labels.LabelTable.place_of.Goals as goal

pub index-requires : goal.index-requires
index-requires c =
    let within = number_within c.self.inside.list.items c.args.name.now c.in-Some.number (search rules) in
    omega (arith, within, c.self.inside.list.ok)

pub returns-in-Some : goal.returns-in-Some
returns-in-Some c =
    let listed : first_number_of (map pair_of c.self.inside.list.items) c.args.name.now ≡ Some c.in-Some.number = search rules in
    let seen = place_at_number c.self.inside.list.items c.args.name.now c.in-Some.number c.index.result.now listed in
    sym (sym (ap (λ l. place_of l c.args.name.now) c.self.view_is) ∙ seen ∙ ap (λ l. Some l.1) (sym c.index.ensures))
