use Rattle.std.proofs.Common.{◌≡◌, ◌<◌, ◌%◌, ℕ, is_ok}
use Rattle.or_back.specs.declared.history.Checkpoint.{Checkpoint}
use Rattle.or_debug.specs.Standing.{IsAfter}
use Rattle.or_back.proofs.Keeping.{all_room, all_pushed, copy_after}
use Rattle.or_back.proofs.checkpoints.keep.Goals as goal

pub returns-clause-stand : goal.returns-clause-stand
returns-clause-stand c = λ start turns here all.
    let P : Checkpoint → Type 0 = λ one. IsAfter start turns one.turn one.board.cores one.board.bus in
    all_pushed P (is_ok c.push.result) c.make_room.new.kept.items c.push.new.self.items _ c.push.ensures.items
    (all_room P c.args.kept.now.items c.make_room.new.kept.items c.make_room.ensures.same all)
    (copy_after start turns c.args.turn c.args.board.now c.copy.new.self c.in-Ok.copy c.copy.ensures.same c.in-Ok.ensures.copy here)

pub returns-in_default-clause-stand : goal.returns-in_default-clause-stand
returns-in_default-clause-stand c = λ start turns here all.
    all_room (λ (one : Checkpoint). IsAfter start turns one.turn one.board.cores one.board.bus) c.args.kept.now.items c.make_room.new.kept.items c.make_room.ensures.same all

pub returns-clause-multiples : goal.returns-clause-multiples
returns-clause-multiples c = λ every multiple some all.
    let P : Checkpoint → Type 0 = λ one. (one.turn % every ≡ 0) × (0 < one.turn) in
    all_pushed P (is_ok c.push.result) c.make_room.new.kept.items c.push.new.self.items _ c.push.ensures.items
    (all_room P c.args.kept.now.items c.make_room.new.kept.items c.make_room.ensures.same all) (multiple, some)

pub returns-in_default-clause-multiples : goal.returns-in_default-clause-multiples
returns-in_default-clause-multiples c = λ every multiple some all.
    all_room (λ (one : Checkpoint). (one.turn % every ≡ 0) × (0 < one.turn)) c.args.kept.now.items c.make_room.new.kept.items c.make_room.ensures.same all
