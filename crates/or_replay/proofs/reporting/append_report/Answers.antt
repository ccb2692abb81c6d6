use Rattle.std.proofs.Common.{◌≡◌, ◌∙◌, ◌++◌, ap, subst, List, ℕ, length, length-append, codes, arith}
use Rattle.sha2.specs.Sha256.{sha256}
use Rattle.or_text.specs.Hexadecimal.{digest_text}
use Rattle.or_text.proofs.Kept.{on_err_always}
use Rattle.or_parts.specs.Devices.{console_of}
use Rattle.or_model.specs.Core.{Core}
use Rattle.or_replay.specs.Report.{counts_line, core_blocks, report_text}
use Rattle.or_replay.proofs.Grouped.{then_one}
use Rattle.or_replay.proofs.reporting.append_report.Goals as goal

pub returns-clause-ok : goal.returns-clause-ok
unfolding report_text
returns-clause-ok c = λ board same is.
    let old = c.args.out.now.items in
    let front = subst (λ (cores : List Core). c.append_front.new.out.items ≡ old ++ (codes "orreport 1\n" ++ counts_line (length cores) c.args.turns (length (console_of board.world.devices)) ++ core_blocks board.world cores))
    same (c.in_ok-append_front.ensures.text board.world is) in
    let memory : c.append_memory.new.out.items ≡ c.append_front.new.out.items ++ (codes "memory " ++ digest_text (sha256 board.world.ram) ++ codes "\n") = c.in_ok-append_memory.ensures.text ∙ ap (λ (bytes : List ℕ). c.append_front.new.out.items ++ (codes "memory " ++ digest_text (sha256 bytes) ++ codes "\n")) (c.deref.ensures.value ∙ (c.into_parts-ram.ensures.ram ∙ is.ram)) in
    (c.into_parts-ram.ensures.console ∙ ap console_of is.devices, then_one old _ _ _ _ front memory)

pub returns-in_err-append_memory-clause-full : goal.returns-in_err-append_memory-clause-full
unfolding report_text
returns-in_err-append_memory-clause-full c = on_err_always c.from_residual-in_err-append_memory.result (λ board same is.
    let old = c.args.out.now.items in
    let before = codes "orreport 1\n" ++ counts_line (length board.cores) c.args.turns (length (console_of board.world.devices)) ++ core_blocks board.world board.cores in
    let front = subst (λ (cores : List Core). c.append_front.new.out.items ≡ old ++ (codes "orreport 1\n" ++ counts_line (length cores) c.args.turns (length (console_of board.world.devices)) ++ core_blocks board.world cores))
    same (c.in_ok-append_front.ensures.text board.world is) in
    let written = ap length front ∙ length-append old before in
    let memory : length (codes "memory " ++ digest_text (sha256 c.deref.result.now) ++ codes "\n") ≡ length (codes "memory " ++ digest_text (sha256 board.world.ram) ++ codes "\n") =
    ap (λ (bytes : List ℕ). length (codes "memory " ++ digest_text (sha256 bytes) ++ codes "\n")) (c.deref.ensures.value ∙ (c.into_parts-ram.ensures.ram ∙ is.ram)) in
    let whole = length-append before (codes "memory " ++ digest_text (sha256 board.world.ram) ++ codes "\n") in
    let lacks = c.in_err-append_memory.ensures.full in
    let more = c.append_front.ensures.capacity in
    grind (arith, written, memory, whole, lacks, more))
