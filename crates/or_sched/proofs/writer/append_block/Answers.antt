use Rattle.std.proofs.Common.{◌≡◌, ◌∙◌, ◌++◌, ◌∷◌, [], ap, sym, length, length-append, arith}
use Rattle.or_sched.proofs.RunLemmas.{last_run, last_run_ends}
use Rattle.or_sched.specs.Runs.{block_text}
use Rattle.or_sched.proofs.writer.append_block.Goals as goal

pub returns-clause-text : goal.returns-clause-text
returns-clause-text c =
    c.in_ok-push.ensures.items
    ∙ last_run c.loop-rest.rest.now c.loop-rest.core c.loop-rest.count c.loop-rest.left c.in_ok-append_run.field-0 c.loop-rest.out.items _ _ c.in_default-rest.len_below (c.in_ok-append_run.ensures.text []) c.loop-rest.invariant.text

pub returns-in_err-append_run-clause-full : goal.returns-in_err-append_run-clause-full
returns-in_err-append_run-clause-full c =
    let ends = last_run_ends c.loop-rest.rest.now c.loop-rest.core c.loop-rest.count c.loop-rest.left c.loop-rest.out.items c.args.out.now.items (block_text c.args.turns.now) c.in_default-rest.len_below c.loop-rest.invariant.text in
    let lacks = c.in_err-append_run.ensures.full [] in
    let more = c.loop-rest.invariant.capacity in
    grind (arith, ends, lacks, more)

pub returns-in_err-push-clause-full : goal.returns-in_err-push-clause-full
returns-in_err-push-clause-full c =
    let mid = c.append_run-2.new.out.items in
    let whole : mid ++ 10 ∷ [] ≡ c.args.out.now.items ++ block_text c.args.turns.now =
    last_run c.loop-rest.rest.now c.loop-rest.core c.loop-rest.count c.loop-rest.left c.in_ok-append_run.field-0 c.loop-rest.out.items _ _ c.in_default-rest.len_below (c.in_ok-append_run.ensures.text []) c.loop-rest.invariant.text in
    let ends = sym (length-append mid (10 ∷ [])) ∙ ap length whole ∙ length-append c.args.out.now.items (block_text c.args.turns.now) in
    let grows = c.in_ok-append_run.ensures.capacity in
    let more = c.loop-rest.invariant.capacity in
    grind (arith, ends, grows, more)
