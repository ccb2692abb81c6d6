use Rattle.std.proofs.Common.{◌≡◌, ◌++◌, ◌∷◌, [], sym, subst, Some, ◌+◌}
use Rattle.or_sched.specs.declared.recording.RecFault.TheVariants.{BadHead}
use Rattle.or_sched.specs.declared.state.State.TheVariants.{Failed}
use Rattle.or_sched.specs.Reading.{StateRead, HeadingRead, BodyRead, head_of, limits_of, first_of}
use Rattle.or_sched.specs.declared.head.HeadPlace.TheVariants.{Behind}
use Rattle.or_sched.specs.HeadPlaces.{AreDigests, HeadStepKeeps, line_of, feed}
use Rattle.or_sched.proofs.ReaderLemmas.{heading_moves, heading_ends, heading_refused}
use Rattle.or_sched.proofs.reader.Reader.read_head.Goals as goal

pub returns-in-Refused-clause-fed : goal.returns-in-Refused-clause-fed
returns-in-Refused-clause-fed c = λ front before marks read.
    let r : HeadingRead c.args.self.now.head c.args.heading front before marks = subst (λ s. StateRead c.args.self.now.head s front before marks) c.requires read in
    subst (λ s. StateRead c.fail.new.self.head s (front ++ c.args.byte ∷ []) before marks) (sym c.fail.ensures.state)
    (subst (λ h. StateRead h (Failed (BadHead c.line.result)) (front ++ c.args.byte ∷ []) before marks) (sym c.fail.ensures.head)
    (heading_refused c.args.self.now.head c.args.heading c.args.byte front before marks r c.line.result c.line.ensures c.in-Refused.ensures.step))

pub returns-in-Goes-Behind-default-clause-fed : goal.returns-in-Goes-Behind-default-clause-fed
returns-in-Goes-Behind-default-clause-fed c = λ front before marks read.
    let r : HeadingRead c.args.self.now.head c.args.heading front before marks = subst (λ s. StateRead c.args.self.now.head s front before marks) c.requires read in
    let step : AreDigests c.args.heading.known → HeadStepKeeps c.args.heading.known c.args.heading.place c.args.byte c.in-Goes-Behind-default.known Behind × AreDigests c.in-Goes-Behind-default.known =
    subst (λ p. AreDigests c.args.heading.known → HeadStepKeeps c.args.heading.known c.args.heading.place c.args.byte c.in-Goes-Behind-default.known p × AreDigests c.in-Goes-Behind-default.known)
    c.in-Goes-Behind-default.field-0-is c.in-Goes-Behind-default.ensures.step in
    let lines : line_of Behind ≡ line_of c.args.heading.place + feed c.args.byte =
    subst (λ p. line_of p ≡ line_of c.args.heading.place + feed c.args.byte) c.in-Goes-Behind-default.field-0-is c.in-Goes-Behind-default.ensures.lines in
    let b : BodyRead (Some (head_of c.in-Goes-Behind-default.known)) (limits_of c.in-Goes-Behind-default.known) (first_of c.in-Goes-Behind-default.known) c.next_count-count.result (front ++ c.args.byte ∷ []) before marks =
    heading_ends c.args.self.now.head c.args.heading c.args.byte front before marks r c.in-Goes-Behind-default.known c.next_count-count.result step lines c.next_count-count.ensures in
    subst (λ h. BodyRead (Some h) c.first_place.result.limits c.first_place.result.place c.first_place.result.count (front ++ c.args.byte ∷ []) before marks) (sym c.head.ensures)
    (subst (λ l. BodyRead (Some (head_of c.in-Goes-Behind-default.known)) l c.first_place.result.place c.first_place.result.count (front ++ c.args.byte ∷ []) before marks) (sym c.first_place.ensures.limits)
    (subst (λ p. BodyRead (Some (head_of c.in-Goes-Behind-default.known)) (limits_of c.in-Goes-Behind-default.known) p c.first_place.result.count (front ++ c.args.byte ∷ []) before marks) (sym c.first_place.ensures.place)
    (subst (λ n. BodyRead (Some (head_of c.in-Goes-Behind-default.known)) (limits_of c.in-Goes-Behind-default.known) (first_of c.in-Goes-Behind-default.known) n (front ++ c.args.byte ∷ []) before marks) (sym c.first_place.ensures.count) b)))

pub returns-in-Goes : goal.returns-in-Goes
returns-in-Goes c = record {
  fed = λ front before marks read.
      let r : HeadingRead c.args.self.now.head c.args.heading front before marks = subst (λ s. StateRead c.args.self.now.head s front before marks) c.requires read in
      heading_moves c.args.self.now.head c.args.heading c.args.byte front before marks r _ c.in-Goes.ensures.step c.in-Goes.ensures.lines c.next_count-count.ensures;
  answer = tt;
}
