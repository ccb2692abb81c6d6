use Rattle.std.proofs.Common.{◌≤◌, List, length, vec_capacity}
use Rattle.or_text.specs.Keeps.{Keeps}
use Rattle.or_prof.specs.Profile.{Addition, IsProfile}
use Rattle.or_prof.specs.Text.{AreCoreTexts, Appends}
use Rattle.or_prof.proofs.profiling.append_profile.Given as goal

abbrev pub invariant-loop-core : goal.invariant-loop-core
invariant-loop-core l = record {
  texts : (additions : List Addition) → IsProfile (record { symbols = l.symbols; hot = l.hot; cores = l.tallies }) additions
      → Appends (AreCoreTexts l.hot l.symbols additions l.core) l.initial.out.items l.out.items;
  capacity : vec_capacity l.initial.out ≤ vec_capacity l.out;
  kept : Keeps l.initial.out.items l.out.items;
  room : length l.symbols.functions ≤ vec_capacity l.lines;
  more : vec_capacity l.initial.lines ≤ vec_capacity l.lines;
}
