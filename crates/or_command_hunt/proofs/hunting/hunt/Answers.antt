use Rattle.std.proofs.Common.{ap, subst, sym, ℕ, List}
use Rattle.std.specs.Prelude.{Vec}
use Rattle.std.specs.declared.alloc.Global.{Global}
use Rattle.or_command_line.specs.Names.{hunt_names}
use Rattle.or_command.specs.Loads.{bytes_of}
use Rattle.or_command.specs.Ends.{CommandEnd, too_long, end_of}
use Rattle.or_command.proofs.OutcomesLemmas.{end_of_stop}
use Rattle.or_command_hunt.specs.Finishing.{HuntGoesOn, HuntEnds}
use Rattle.or_command_hunt.proofs.Hunts.{hunt_goes_on, hunt_stops}
use Rattle.or_command_hunt.proofs.hunting.hunt.Goals as goal

pub returns-in-Ok : goal.returns-in-Ok
returns-in-Ok g c =
    let names = hunt_names c.args.words.now in
    let options = c.args.words.now.options in
    hunt_goes_on names options c.requires.names (bytes_of c.new_in-files.result.items) (bytes_of c.load_image.new.into.items) (end_of c.finish.result)
    (g.H.Host.state c.args.host.now) (g.H.Host.state c.load_image.new.host) (g.H.Host.state c.finish.new.host)
    (ap bytes_of c.new_in-files.ensures) c.in-Ok.ensures.files c.in-Ok.ensures.silent
    (subst (λ (files : List (Vec ℕ Global)). HuntGoesOn names options (bytes_of files) (end_of c.finish.result)
    (g.H.Host.state c.load_image.new.host) (g.H.Host.state c.finish.new.host)) c.as_slice.ensures.value c.finish.ensures)

pub returns-in-Err-TooLong : goal.returns-in-Err-TooLong
returns-in-Err-TooLong g c =
    let names = hunt_names c.args.words.now in
    let options = c.args.words.now.options in
    let a = g.H.Host.state c.args.host.now in
    let b = g.H.Host.state c.load_image.new.host in
    let stopped : HuntEnds names options (too_long c.in-Err-TooLong.name.now c.in-Err-TooLong.limit) a b =
    subst (λ (end : CommandEnd). HuntEnds names options end a b) (ap end_of_stop c.in-Err-TooLong.field-0-is)
    (hunt_stops names options c.in-Err-TooLong.field-0 (bytes_of c.new_in-files.result.items) (bytes_of c.load_image.new.into.items) a b c.in-Err-TooLong.ensures.files c.in-Err-TooLong.ensures.silent) in
    subst (λ (end : CommandEnd). HuntEnds names options end a b) (λ i. too_long (sym c.in-Err-TooLong.name-is i).now (sym c.in-Err-TooLong.limit-is i)) stopped
