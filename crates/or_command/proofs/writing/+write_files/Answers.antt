use Rattle.std.proofs.Common.{rules, ◌≡◌, sym, ap, subst, List, ◌∷◌, refl}
use Rattle.or_command.specs.Writes.{File, file_of, files_of, AreFiles, FileWritten, FilesStopped}
use Rattle.or_command.proofs.WritesLemmas.{first_stopped, later_stopped}
use Rattle.or_command.proofs.writing.+write_files.Goals as goal

pub returns-then-is_err-clause-files : goal.returns-then-is_err-clause-files
returns-then-is_err-clause-files g t c =
    let parts : c.args.files.now ≡ c.in-Some.file.now ∷ c.in-Some.others.now = search rules in
    let old = g.H.Host.state c.args.host.now in
    let new = g.H.Host.state c.write_file.new.host in
    let file = file_of c.in-Some.file.now in
    let others = files_of c.in-Some.others.now in
    subst (λ (fs : List File). FilesStopped fs file.name old new) (sym (ap files_of parts)) (first_stopped file others file.name old new refl (search rules))

pub returns-in-Err-clause-files : goal.returns-in-Err-clause-files
returns-in-Err-clause-files g t c =
    let parts : c.args.files.now ≡ c.in-Some.file.now ∷ c.in-Some.others.now = search rules in
    let old = g.H.Host.state c.args.host.now in
    let mid = g.H.Host.state c.write_file.new.host in
    let new = g.H.Host.state c.write_files.new.host in
    let file = file_of c.in-Some.file.now in
    let others = files_of c.in-Some.others.now in
    let are : AreFiles (file ∷ others) = subst AreFiles (ap files_of parts) c.requires in
    let whole : FileWritten file.name file.text old mid = search rules in
    subst (λ (fs : List File). FilesStopped fs c.in-Err.name.now old new) (sym (ap files_of parts))
    (later_stopped file others c.in-Err.name.now old mid new are whole c.in-Err.ensures.files)
