use Rattle.std.proofs.Common.{ap, sym, ◌∙◌, arith, length, List, ℕ}
use Rattle.std.specs.Prelude.{slice_set}
use Rattle.or_parts.specs.Lines.{line_bytes, line_filled}
use Rattle.or_mem.specs.Caches.{cache_of}
use Rattle.or_bus.specs.State.{BusState}
use Rattle.or_bus.proofs.Worlds.{sound-kept}
use Rattle.or_bus.proofs.bus.Bus.keep.Goals as goal

-- the line is one of RAM
pub invariant_of-self : goal.invariant_of-self
invariant_of-self c =
    let inside = c.self.inside in
    let cores = ap (λ (b : BusState). b.cores) c.self.view_is in
    let long = ap (λ (b : BusState). length b.ram) c.self.view_is in
    let line = c.requires.true_line ∙ ap (λ (b : BusState). line_bytes b.ram c.args.pa) (sym c.self.view_is) in
    sound-kept inside.cores _ inside.caches _ _ _ _ c.args.core c.args.pa c.self.invariant (omega arith) (omega (arith, c.requires.inside))
    (c.fill.ensures.filled ∙ ap (λ (bytes : List ℕ). slice_set inside.caches c.args.core (line_filled (cache_of inside.caches c.args.core) c.args.pa bytes)) line)
