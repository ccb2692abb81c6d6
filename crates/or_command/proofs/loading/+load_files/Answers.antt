use Rattle.std.proofs.Common.{arith, rules, ◌≡◌, sym, ap, subst, List, [], ◌∷◌, ◌++◌, length}
use Rattle.std.proofs.lemmas.Grind.{common_steps}
use Rattle.or_command.specs.Loads.{Load, load_of, loads_of, bytes_of, LoadsAll, LoadsSome}
use Rattle.or_command.proofs.LoadsLemmas.{empty_list, none_loaded, first_stops, later_stops}
use Rattle.or_command.proofs.loading.+load_files.Goals as goal

pub returns-in_default-clause-files : goal.returns-in_default-clause-files
returns-in_default-clause-files g t c =
    let zero : length c.args.inputs.now ≡ 0 = search rules in
    let none : c.args.inputs.now ≡ [] = empty_list c.args.inputs.now zero in
    let a = g.H.Host.state c.args.host.now in
    let held = bytes_of c.args.into.now.items in
    subst (λ (loads : List Load). LoadsAll loads held held a a) (sym (ap loads_of none)) (none_loaded held a)

pub returns-in-Err-clause-files : goal.returns-in-Err-clause-files
returns-in-Err-clause-files g t c =
    let parts : c.args.inputs.now ≡ c.in-Some.first.now ∷ c.in-Some.others.now = search rules in
    let a = g.H.Host.state c.args.host.now in
    let b = g.H.Host.state c.load_one.new.host in
    let held = bytes_of c.args.into.now.items in
    subst (λ (loads : List Load). LoadsSome loads c.in-Err.stop held held a b) (sym (ap loads_of parts))
    (first_stops (load_of c.in-Some.first.now) (loads_of c.in-Some.others.now) c.in-Err.stop held a b c.in-Err.ensures.file)

pub returns-in-Err-load_files-clause-files : goal.returns-in-Err-load_files-clause-files
returns-in-Err-load_files-clause-files g t c =
    let parts : c.args.inputs.now ≡ c.in-Some.first.now ∷ c.in-Some.others.now = search rules in
    let a = g.H.Host.state c.args.host.now in
    let b = g.H.Host.state c.load_one.new.host in
    let d = g.H.Host.state c.load_files.new.host in
    let held = bytes_of c.args.into.now.items in
    let mid = bytes_of c.push.new.self.items in
    let kept = bytes_of c.load_files.new.into.items in
    let pushed : mid ≡ held ++ c.in-Ok.file.items ∷ [] = grind (arith, common_steps) in
    subst (λ (loads : List Load). LoadsSome loads c.in-Err-load_files.stop held kept a d) (sym (ap loads_of parts))
    (later_stops (load_of c.in-Some.first.now) (loads_of c.in-Some.others.now) c.in-Ok.file.items c.in-Err-load_files.stop held mid kept a b d
    c.in-Ok.ensures.file pushed c.in-Err-load_files.ensures.files)
