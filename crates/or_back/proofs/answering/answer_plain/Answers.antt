use Rattle.std.proofs.Common.{◌∙◌, ◌++◌, refl, sym, ap, subst}
use Rattle.or_script.specs.declared.command.Command.{Command}
use Rattle.or_debug.specs.Turns.{turns_made, last_of}
use Rattle.or_debug.specs.BoardText.{made_text}
use Rattle.or_debug.proofs.Results.{on_ok_both}
use Rattle.or_debug.proofs.Seen.{still_after}
use Rattle.or_back.specs.declared.lines.BackCommand.TheVariants.{Plain}
use Rattle.or_back.specs.Backward.{IsBackAnswered}
use Rattle.or_back.proofs.Sessions.{seen_here, watch_told, store_told, last_shown}
use Rattle.or_back.proofs.answering.answer_plain.Goals as goal

pub returns-in-Watch-clause-answered : goal.returns-in-Watch-clause-answered
returns-in-Watch-clause-answered c =
    let history = c.args.history.now in
    on_ok_both c.set_watch.result (λ points seen start turns stands.
    let told = stands.tells in
    let here = told.here in
    watch_told start turns history _ c.args.stops.now c.set_watch.new.self c.args.command c.in-Watch.address c.args.text.now.items c.in-Watch.is
    (seen_here start turns history _ c.args.stops.now c.set_watch.new.self stands
    (record {
      turns_are = told.turns_are;
      follows = told.follows;
      first = told.first;
      here = still_after start turns history.at history.board.cores c.set_watch.new.board.cores history.board.bus c.set_watch.new.board.bus here c.set_watch.ensures.board;
      kept = told.kept;
    })
    refl seen)
    refl (points here.now here.is) c.requires) c.set_watch.ensures.points c.set_watch.ensures.seen

pub returns-in-Stores-clause-answered : goal.returns-in-Stores-clause-answered
returns-in-Stores-clause-answered c =
    let history = c.args.history.now in
    on_ok_both c.set_store.result (λ points seen start turns stands.
    let told = stands.tells in
    let here = told.here in
    store_told start turns history _ c.args.stops.now c.set_store.new.self c.args.command c.in-Stores.address c.args.text.now.items c.in-Stores.is
    (seen_here start turns history _ c.args.stops.now c.set_store.new.self stands
    (record {
      turns_are = told.turns_are;
      follows = told.follows;
      first = told.first;
      here = still_after start turns history.at history.board.cores c.set_store.new.board.cores history.board.bus c.set_store.new.board.bus here c.set_store.ensures.board;
      kept = told.kept;
    })
    refl seen)
    refl (points here.now here.is) c.requires) c.set_store.ensures.points c.set_store.ensures.seen

pub returns-in-Last-clause-answered : goal.returns-in-Last-clause-answered
returns-in-Last-clause-answered c =
    let history = c.args.history.now in
    on_ok_both c.append_last.result (λ text at start turns stands.
    subst (λ (command : Command). IsBackAnswered start turns history c.args.stops.now (Plain command) c.append_last.new.text.items c.append_last.new.history c.args.stops.now) (sym c.in-Last.is)
    (last_shown start turns c.in-Last.count history c.append_last.new.history c.args.stops.now c.append_last.new.text.items stands (c.append_last.ensures.tells start turns stands.tells) at
    (text start turns stands.tells ∙ ap (λ l. l ++ made_text (last_of c.in-Last.count (turns_made start turns history.at))) c.requires))) c.append_last.ensures.text c.append_last.ensures.at
