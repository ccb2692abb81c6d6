use Rattle.std.proofs.Common.{ap, subst, ℕ, List}
use Rattle.std.specs.Prelude.{Vec}
use Rattle.std.specs.declared.alloc.Global.{Global}
use Rattle.or_command.specs.declared.loading.LoadStop.{LoadStop}
use Rattle.or_command.specs.Loads.{bytes_of, StopsLoading, StopsForMemory}
use Rattle.or_command.specs.Ends.{end_of}
use Rattle.or_command_source.specs.Assembly.{only_file}
use Rattle.or_command_source.specs.Listing.{dis_loads}
use Rattle.or_command_source.specs.Listed.{DisEnds}
use Rattle.or_command_source.proofs.Ending.{dis_goes_on, lacks_none}
use Rattle.or_command_source.proofs.disassembly.disassembled.Goals as goal

pub returns-in-Ok-clause-outcome : goal.returns-in-Ok-clause-outcome
returns-in-Ok-clause-outcome g c =
    let image = c.args.image.now in
    dis_goes_on image (bytes_of c.new_in-files.result.items) (bytes_of c.load_files.new.into.items) (end_of c.finish.result)
    (g.H.Host.state c.args.host.now) (g.H.Host.state c.load_files.new.host) (g.H.Host.state c.finish.new.host)
    (ap bytes_of c.new_in-files.ensures) c.in-Ok.ensures.files
    (subst (λ (files : List (Vec ℕ Global)). DisEnds image (only_file (bytes_of files)) (end_of c.finish.result)
    (g.H.Host.state c.load_files.new.host) (g.H.Host.state c.finish.new.host)) c.as_slice.ensures.value
    (subst (λ (bytes : List ℕ). DisEnds image bytes (end_of c.finish.result) (g.H.Host.state c.load_files.new.host) (g.H.Host.state c.finish.new.host))
    c.only_file.ensures c.finish.ensures.outcome))

pub returns-clause-outcome : goal.returns-clause-outcome
returns-clause-outcome g c =
    let a = g.H.Host.state c.args.host.now in
    let b = g.H.Host.state c.load_files.new.host in
    let loads = c.in-Err-NoMemory.ensures.files in
    let stops : StopsForMemory (dis_loads c.args.image.now) loads.files a b =
    subst (λ (stop : LoadStop). StopsLoading (dis_loads c.args.image.now) stop loads.files a b) c.in-Err-NoMemory.field-0-is loads.stops in
    lacks_none c.args.image.now a b (record { untouched = stops.untouched; no_fault = stops.no_fault }) stops.lacked
