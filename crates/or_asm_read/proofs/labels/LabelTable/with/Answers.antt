use Rattle.std.proofs.Common.{rules, ◌≡◌, ◌∙◌, ◌++◌, [], ◌∷◌, sym, ap, cond, Option, Some, None, ℕ, length, map, bytes_eq}
use Rattle.std.proofs.lemmas.List.{map-append, length-map}
use Rattle.or_asm_read.specs.Labels.{number_in, first_number_of, or_else}
use Rattle.or_asm_read.proofs.LabelNumbers.{pair_of, number_append}
use Rattle.or_asm_read.proofs.labels.LabelTable.with.Goals as goal

pub invariant_of-result : goal.invariant_of-result
invariant_of-result c = λ name.
    let old = c.self.inside.list.items in
    let more : ℕ → Option ℕ = λ n. cond (bytes_eq c.args.name.now name) (Some n) None in
    let longer : number_in c.in_ok-index.index name ≡ or_else (number_in c.self.inside.index name) (more (length old)) =
    c.in_ok-index.ensures name ∙ ap (λ n. or_else (number_in c.self.inside.index name) (more n)) (search rules) in
    let known : number_in c.self.inside.index name ≡ first_number_of (map pair_of old) name = c.self.invariant name in
    let listed : map pair_of c.push.new.self.items ≡ map pair_of old ++ (c.args.name.now, c.args.place) ∷ [] =
    ap (map pair_of) (c.in_ok-push.ensures.items) ∙ map-append pair_of old ((c.args.name, c.args.place) ∷ []) in
    longer ∙ ap (λ r. or_else r (more (length old))) known ∙ ap (λ n. or_else (first_number_of (map pair_of old) name) (more n)) (sym (length-map old pair_of))
    ∙ sym (ap (λ l. first_number_of l name) listed ∙ number_append (map pair_of old) (c.args.name.now, c.args.place) name)
