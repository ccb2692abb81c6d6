use Rattle.std.proofs.Common.{◌≡◌, ◌≢◌, ℕ, ◌<◌, ◌≤◌, slice_index}
use Rattle.or_race.specs.Kept.{conflicting_of}
use Rattle.or_race.proofs.word.latest_race.Given as goal

abbrev pub invariant-loop-core : goal.invariant-loop-core
invariant-loop-core l = record {
  most : (k : ℕ) → k < l.core → k ≢ l.a.core → slice_index l.clock k < (conflicting_of l.a.kind l.word k).turn → (conflicting_of l.a.kind l.word k).turn ≤ l.first.turn;
  in_cores : 0 < l.first.turn → l.first_core < l.core;
  other : 0 < l.first.turn → l.first_core ≢ l.a.core;
  is : 0 < l.first.turn → l.first ≡ conflicting_of l.a.kind l.word l.first_core;
  ahead : 0 < l.first.turn → slice_index l.clock l.first_core < l.first.turn;
}
