use Rattle.std.proofs.Common.{◌≡◌, ◌∙◌, ◌++◌, ◌∷◌, [], ap, sym, refl, subst, append-nil, inl, inr, List, ℕ}
use Rattle.std.specs.Prelude.{replicate}
use Rattle.or_sched.specs.declared.recording.RecFault.TheVariants.{BadRun}
use Rattle.or_sched.specs.declared.state.State.TheVariants.{Failed}
use Rattle.or_sched.specs.Reading.{StateRead, BodyRead, IsFront, Fed}
use Rattle.or_sched.proofs.EndedLemmas.{counts_goes, counts_run, counts_mark}
use Rattle.or_sched.proofs.ReaderLemmas.{fed_same, fed_moves, fed_part, body_refused}
use Rattle.or_sched.proofs.reader.Reader.read_body.Goals as goal

pub returns-in-Refused-clause-fed : goal.returns-in-Refused-clause-fed
returns-in-Refused-clause-fed c = fed_same c.args.self.now c.fail.new.self (c.args.byte ∷ []) c.args.out.now.items c.args.marks.now.items (λ front before marks read.
    let r : BodyRead c.args.self.now.head c.args.body.limits c.args.body.place c.args.body.count front before marks =
    subst (λ s. StateRead c.args.self.now.head s front before marks) c.requires read in
    subst (λ s. StateRead c.fail.new.self.head s (front ++ c.args.byte ∷ []) before marks) (sym c.fail.ensures.state)
    (subst (λ h. StateRead h (Failed (BadRun c.args.body.count)) (front ++ c.args.byte ∷ []) before marks) (sym c.fail.ensures.head)
    (body_refused c.args.self.now.head c.args.body c.args.byte front before marks r c.in-Refused.ensures.step)))

pub returns-in-Goes-clause-fed : goal.returns-in-Goes-clause-fed
returns-in-Goes-clause-fed c =
    fed_moves c.args.self.now c.go.new.self c.args.body c.args.byte c.requires c.go.ensures.head [] c.in-Goes.next c.in-Goes.ensures.sound c.in-Goes.ensures.step
    (counts_goes c.args.body.place c.in-Goes.next c.in-Goes.ensures.places) c.args.out.now.items c.args.out.now.items c.args.marks.now.items c.args.marks.now.items
    c.go.ensures.state (sym (append-nil c.args.out.now.items)) (sym (append-nil c.args.marks.now.items))

pub returns-in-Ok-clause-fed : goal.returns-in-Ok-clause-fed
returns-in-Ok-clause-fed c =
    fed_moves c.args.self.now c.go-in-Ok.new.self c.args.body c.args.byte c.requires c.go-in-Ok.ensures.head (inl (c.in-EndsRun.core, c.in-EndsRun.turns) ∷ []) c.in-EndsRun.next
    c.in-EndsRun.ensures.sound c.in-EndsRun.ensures.step (counts_run c.args.body.place c.in-EndsRun.next c.in-EndsRun.core c.in-EndsRun.turns c.in-EndsRun.ensures.places)
    c.args.out.now.items c.push_run.new.out.items c.args.marks.now.items c.args.marks.now.items c.go-in-Ok.ensures.state
    (c.in-Ok.ensures ∙ ap (λ t. c.args.out.now.items ++ t) (sym (append-nil (replicate c.in-EndsRun.turns c.in-EndsRun.core)))) (sym (append-nil c.args.marks.now.items))

pub returns-in-Err-clause-fed : goal.returns-in-Err-clause-fed
returns-in-Err-clause-fed c =
    let pushed : (part : List ℕ) × (c.push_run.new.out.items ≡ c.args.out.now.items ++ part) × IsFront part (replicate c.in-EndsRun.turns c.in-EndsRun.core) = c.in-Err.ensures in
    fed_part c.args.self.now c.fail-in-Err.new.self c.args.body c.args.byte c.requires c.fail-in-Err.ensures.head (inl (c.in-EndsRun.core, c.in-EndsRun.turns) ∷ []) c.in-EndsRun.next
    c.in-EndsRun.ensures.sound c.in-EndsRun.ensures.step (counts_run c.args.body.place c.in-EndsRun.next c.in-EndsRun.core c.in-EndsRun.turns c.in-EndsRun.ensures.places)
    c.args.out.now.items c.push_run.new.out.items pushed.0 c.args.marks.now.items c.fail-in-Err.ensures.state pushed.1
    (subst (IsFront pushed.0) (sym (append-nil (replicate c.in-EndsRun.turns c.in-EndsRun.core))) pushed.2)

pub returns-in-Ok-push_mark-clause-fed : goal.returns-in-Ok-push_mark-clause-fed
returns-in-Ok-push_mark-clause-fed c =
    fed_moves c.args.self.now c.go-in-Ok-push_mark.new.self c.args.body c.args.byte c.requires c.go-in-Ok-push_mark.ensures.head (inr c.in-EndsMark.mark ∷ []) c.in-EndsMark.next
    c.in-EndsMark.ensures.sound c.in-EndsMark.ensures.step (counts_mark c.args.body.place c.in-EndsMark.next c.in-EndsMark.mark c.in-EndsMark.ensures.places)
    c.args.out.now.items c.args.out.now.items c.args.marks.now.items c.push_mark.new.marks.items c.go-in-Ok-push_mark.ensures.state
    (sym (append-nil c.args.out.now.items)) c.in-Ok-push_mark.ensures

pub returns-in-Err-push_mark-clause-fed : goal.returns-in-Err-push_mark-clause-fed
returns-in-Err-push_mark-clause-fed c =
    subst (λ m. Fed c.args.self.now c.fail-in-Err-push_mark.new.self (c.args.byte ∷ []) c.args.out.now.items c.args.out.now.items c.args.marks.now.items m) (sym c.in-Err-push_mark.ensures)
    (fed_part c.args.self.now c.fail-in-Err-push_mark.new.self c.args.body c.args.byte c.requires c.fail-in-Err-push_mark.ensures.head (inr c.in-EndsMark.mark ∷ []) c.in-EndsMark.next
    c.in-EndsMark.ensures.sound c.in-EndsMark.ensures.step (counts_mark c.args.body.place c.in-EndsMark.next c.in-EndsMark.mark c.in-EndsMark.ensures.places)
    c.args.out.now.items c.args.out.now.items [] c.args.marks.now.items c.fail-in-Err-push_mark.ensures.state (sym (append-nil c.args.out.now.items)) (record { rest = []; parts = refl }))
