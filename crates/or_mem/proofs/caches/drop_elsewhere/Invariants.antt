use Rattle.std.proofs.Common.{◌≡◌, ◌≢◌, ◌<◌, ◌≤◌, ℕ}
use Rattle.or_parts.specs.Lines.{line_dropped}
use Rattle.or_mem.specs.Caches.{cache_of}
use Rattle.or_mem.proofs.caches.drop_elsewhere.Given as goal

-- the caches before this place are without the line, but for the core's own, and the others are as they were
abbrev pub invariant-loop-place : goal.invariant-loop-place
invariant-loop-place l = record {
  before : (c : ℕ) → c < l.place → c ≢ l.core → cache_of l.caches c ≡ line_dropped (cache_of l.fn.caches c) l.pa;
  own : cache_of l.caches l.core ≡ cache_of l.fn.caches l.core;
  later : (c : ℕ) → l.place ≤ c → cache_of l.caches c ≡ cache_of l.fn.caches c;
}
