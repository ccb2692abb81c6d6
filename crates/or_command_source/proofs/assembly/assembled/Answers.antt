use Rattle.std.proofs.Common.{ap, subst, ℕ, List}
use Rattle.std.specs.Prelude.{Vec}
use Rattle.std.specs.declared.alloc.Global.{Global}
use Rattle.or_command.specs.declared.loading.LoadStop.{LoadStop}
use Rattle.or_command.specs.Loads.{bytes_of, StopsLoading, StopsForMemory}
use Rattle.or_command.specs.Ends.{end_of}
use Rattle.or_command.specs.Answered.{FinishEnds}
use Rattle.or_command_source.specs.Assembly.{asm_loads, asm_check, AsmWrites}
use Rattle.or_command_source.proofs.Ending.{asm_goes_on, source_lacks}
use Rattle.or_command_source.proofs.assembly.assembled.Goals as goal

pub returns-in-Ok-clause-outcome : goal.returns-in-Ok-clause-outcome
returns-in-Ok-clause-outcome g c =
    let source = c.args.source.now in
    let image = c.args.image.now in
    let symbols = c.args.symbols in
    asm_goes_on source image symbols c.requires.names.apart
    (bytes_of c.args.files.now.items) (bytes_of c.load_files.new.into.items) (end_of c.finish.result)
    (g.H.Host.state c.args.host.now) (g.H.Host.state c.load_files.new.host) (g.H.Host.state c.finish.new.host)
    (ap bytes_of c.requires.none) c.in-Ok.ensures.files
    (subst (λ (files : List (Vec ℕ Global)). FinishEnds (asm_check source) (AsmWrites image symbols) (bytes_of files) (end_of c.finish.result)
    (g.H.Host.state c.load_files.new.host) (g.H.Host.state c.finish.new.host)) c.as_slice.ensures.value c.finish.ensures.outcome)

pub returns-in-Err-NoMemory-clause-outcome : goal.returns-in-Err-NoMemory-clause-outcome
returns-in-Err-NoMemory-clause-outcome g c =
    let a = g.H.Host.state c.args.host.now in
    let b = g.H.Host.state c.load_files.new.host in
    let loads = c.in-Err-NoMemory.ensures.files in
    let stops : StopsForMemory (asm_loads c.args.source.now) loads.files a b =
    subst (λ (stop : LoadStop). StopsLoading (asm_loads c.args.source.now) stop loads.files a b) c.in-Err-NoMemory.field-0-is loads.stops in
    source_lacks c.args.source.now a b (record { untouched = stops.untouched; no_fault = stops.no_fault }) stops.lacked
